-- What the short way reads of a token that starts as nearly all do, `18:1(9Z)`: what the contracts of its functions cite. Each says what is left
-- of the definitions of specs/token/Token.antt once so many bytes are read. Assumes nothing.
use Rattle.std.specs.Prelude.{ℕ, ◌+◌, ◌*◌, ◌-◌, ◌≤◌, ◌<◌, ◌≡◌, List, [], ◌∷◌, ◌++◌, Bool, true, false, cond, length, take, drop, get_or, eqb, ltb, Some, Option, Result}
use Rattle.scanner.specs.scan.Part.{index_of, ending}
use Rattle.scanner.specs.scan.Number.{is_digit, digit_run}
use Rattle.chain_record.specs.declared.plain.ChainPrefix.{ChainPrefix}
use Rattle.chain_record.specs.declared.plain.Geometry.TheVariants.{Unstated}
use Rattle.chain_record.specs.declared.plain.DbPos.{DbPos}
use Rattle.chain_record.specs.declared.plain.Mod.{Mod}
use Rattle.chain_record.specs.declared.plain.Ring.{Ring}
use Rattle.chain_record.specs.plain.Chain.{Chain, Outcome, Read, Refused, and_then, unreadable, no_features, with_bond, counts_of, max_carbons, max_bonds, max_groups, max_rings}
use Rattle.token_syntax.specs.form.Parts.{parts_at}
use Rattle.token_syntax.specs.form.Numbers.{trimmed_number}
use Rattle.token_head.specs.positions.Each.{each}
use Rattle.token_head.specs.positions.Positions.{geometry_of, bond_at}
use Rattle.token_reader.specs.declared.token.Head.{Head}
use Rattle.token_reader.specs.declared.token.Listed.{Listed}
use Rattle.token_features.specs.declared.features.Segment.TheVariants.{Cycle, Located}
use Rattle.token_features.specs.features.Features.{ring_of, item_at, part_of}
use Rattle.token_segments.specs.segment.Segment.{segments}
use Rattle.token_reader.specs.declared.token.Lead.{Lead}
use Rattle.token_reader.specs.declared.token.Item.{Item}
use Rattle.token_reader.specs.declared.token.Usual.{Usual}
use Rattle.chain_record.specs.declared.refusal.Refusal.{Refusal}
use Rattle.token_reader.specs.declared.token.ReadChain.{ReadChain}
use Rattle.token_reader.specs.token.Token.{missing_of, finished, rest_of, listed_of, after_count, trimmed_of, all_printable, token_of}
use Rattle.token_reader.specs.token.Lent.{bonds_in, Tells}

-- the bytes of s before v are printable, and no space
pub record Passed (s v : List ℕ) : Type 0 where
  pub bytes : all_printable s ≡ all_printable v
  pub solid : ending v ≡ length v → ending s ≡ length s

-- ---- the head

-- `18:1`: two digits, a colon and a digit
pub record Numbered (t : List ℕ) : Type 0 where
  pub room : 4 ≤ length t
  pub ten : is_digit (get_or t 0 0) ≡ true
  pub one : is_digit (get_or t 1 0) ≡ true
  pub colon : get_or t 2 0 ≡ 58
  pub bonds : is_digit (get_or t 3 0) ≡ true

-- the head that those say, after a prefix of so many bytes
pub record HeadAt (t : List ℕ) (p : ChainPrefix) (at : ℕ) (r : Head) : Type 0 where
  pub counted : Numbered t
  pub is : r ≡ record { prefix = p; carbon = (get_or t 0 0 - 48) * 10 + (get_or t 1 0 - 48); declared = get_or t 3 0 - 48; rest = at + 4 }

-- the head of a whole token, which no space leads; and what is left of it
pub record Headed (s : List ℕ) (r : Head) : Type 0 where
  pub room : r.rest ≤ length s
  pub few : r.carbon ≤ max_carbons
  pub first : get_or s 0 0 ≡ 32 → ⊥
  pub some : length s ≡ 0 → ⊥
  pub passed : Passed s (drop r.rest s)
  pub says : digit_run (drop r.rest s) ≡ 0 → trimmed_of s ≡ after_count r.declared (drop r.rest s) (no_features r.prefix r.carbon r.carbon false)

-- ---- the position list

-- a chain with these double bonds and nothing else
abbrev pub bonded : ChainPrefix → ℕ → List DbPos → Chain
bonded p w l = record { prefix = p; written = w; carbon = w; branched = false; unlocated = 0; oxygens = 0; bonds = l; groups = []; rings = [] }

-- what is left of a list after a comma
unfoldable pub list_left : ℕ → List ℕ → Chain → Outcome
list_left declared t d =
    let n = index_of 41 t in
    cond (eqb n (length t)) (Refused unreadable)
    (and_then (and_then (each bond_at (parts_at 44 (take n t)) d) counts_of) (λ e. rest_of (missing_of d.carbon e.bonds declared) (drop (n + 1) t) e))

-- r is the double bond at pos with the geometry of the byte b, which is a large letter
pub record SpotOf (pos b next : ℕ) (r : Item DbPos) : Type 0 where
  pub is : r ≡ record { what = record { pos = pos; geom = geometry_of b }; next = next }
  pub low : 69 ≤ b
  pub high : b ≤ 90
  pub stated : geometry_of b ≡ Unstated → ⊥

-- r is the double bond that t starts with: with a comma behind it, and with the list's end
pub record Spotted (t : List ℕ) (r : Item DbPos) : Type 0 where
  pub room : r.next < length t
  pub some : 0 < index_of 41 t
  pub passed : Passed t (drop r.next t)
  pub more : (declared : ℕ) (d : Chain) → get_or t r.next 0 ≡ 44 → list_left declared t d ≡ list_left declared (drop (r.next + 1) t) (with_bond r.what d)
  pub last : (declared : ℕ) (d : Chain) → get_or t r.next 0 ≡ 41
      → list_left declared t d ≡ and_then (counts_of (with_bond r.what d)) (λ e. rest_of (missing_of d.carbon e.bonds declared) (drop (r.next + 1) t) e)

-- the list that follows a `(`, read into the array ys
pub record Listing (s : List ℕ) (ys : List DbPos) (r : Listed) : Type 0 where
  pub room : r.rest ≤ length s
  pub few : r.count ≤ max_bonds
  pub stored : r.count ≤ length ys
  pub passed : Passed s (drop r.rest s)
  pub says : (declared : ℕ) (p : ChainPrefix) (w : ℕ)
      → listed_of declared s (no_features p w w false) ≡ rest_of (missing_of w (bonds_in r.count ys) declared) (drop r.rest s) (bonded p w (bonds_in r.count ys))

-- ---- the end

-- nothing, or segments
abbrev pub may_follow : List ℕ → Bool
may_follow [] = true
may_follow (x ∷ xs) = eqb x 59

-- what may follow the head and the list
pub record Follows (v : List ℕ) : Type 0 where
  pub bytes : all_printable v ≡ true
  pub solid : ending v ≡ length v
  pub start : may_follow v ≡ true

-- ---- segments of groups

-- a byte of a part: from `0` to `z`, and no `;`, `[`, `]` or `c`, so that no part ends there and its segment has no other form
unfoldable pub is_plain : ℕ → Bool
is_plain b = cond (ltb b 48) false (cond (ltb 122 b) false (cond (eqb b 59) false (cond (eqb b 91) false (cond (eqb b 93) false (cond (eqb b 99) false true)))))

abbrev pub Plainly : List ℕ → Type 0
Plainly [] = Unit {0}
Plainly (x ∷ s) = (is_plain x ≡ true) × Plainly s

-- r is how many plain bytes lead
pub record PlainRun (s : List ℕ) (r : ℕ) : Type 0 where
  pub within : r ≤ length s
  pub plain : Plainly (take r s)

abbrev pub Digits : List ℕ → Type 0
Digits [] = Unit {0}
Digits (x ∷ s) = (is_digit x ≡ true) × Digits s

-- s is n in digits
pub record Numeral (s : List ℕ) (n : ℕ) : Type 0 where
  pub digits : Digits s
  pub some : 0 < length s
  pub number : trimmed_number s ≡ Some n

-- the position that t starts with, of at most two digits
pub record Leads (t : List ℕ) (r : Lead) : Type 0 where
  pub within : r.length ≤ length t
  pub plain : Plainly (take r.length t)
  pub small : r.pos ≤ 99
  pub figures : Numeral (take r.length t) r.pos
  pub says : (c x : ℕ) (b : List ℕ) → is_digit x ≡ false → part_of (take r.length t ++ x ∷ b) c ≡ item_at (x ∷ b) r.pos c

-- r is the group that t starts with
pub record Itemed (t : List ℕ) (r : Item Mod) : Type 0 where
  pub some : 0 < r.next
  pub room : r.next ≤ length t
  pub plain : Plainly (take r.next t)
  pub says : (c : ℕ) → part_of (take r.next t) c ≡ Located r.what

-- a chain with these double bonds, groups and rings and nothing else; the groups of an array
abbrev pub laden : ChainPrefix → ℕ → List DbPos → List Mod → List Ring → Chain
laden p w l g z = record { prefix = p; written = w; carbon = w; branched = false; unlocated = 0; oxygens = 0; bonds = l; groups = g; rings = z }

abbrev pub groups_in : ℕ → List Mod → List Mod
groups_in n xs = take n xs

-- all segments were read, as n groups in the array ys
pub record Grouped (s : List ℕ) (ys : List Mod) (n : ℕ) : Type 0 where
  pub few : n ≤ max_groups
  pub stored : n ≤ length ys
  pub follows : Follows s
  pub says : (p : ChainPrefix) (w : ℕ) (l : List DbPos) (z : List Ring) → length l ≤ max_bonds → length z ≤ max_rings → segments s (laden p w l [] z) ≡ Read (laden p w l (groups_in n ys) z)

-- ---- a ring in brackets, `[8-12cy5]`

-- its size, and the `]`
pub record Sized (start end carbon : ℕ) (t : List ℕ) (r : Item Ring) : Type 0 where
  pub size : List ℕ
  pub span : ℕ
  pub spans : Numeral size span
  pub room : r.next ≤ length t
  pub split : t ≡ size ++ 93 ∷ drop r.next t
  pub closes : ring_of start end span carbon ≡ Cycle r.what

-- its last carbon and `cy` before those
pub record Spanned (start carbon : ℕ) (t : List ℕ) (r : Item Ring) : Type 0 where
  pub last : List ℕ
  pub end : ℕ
  pub ends : Numeral last end
  pub size : List ℕ
  pub span : ℕ
  pub spans : Numeral size span
  pub room : r.next ≤ length t
  pub split : t ≡ last ++ 99 ∷ 121 ∷ (size ++ 93 ∷ drop r.next t)
  pub closes : ring_of start end span carbon ≡ Cycle r.what

-- its first carbon and `-` before those
pub record Enclosed (carbon : ℕ) (t : List ℕ) (r : Item Ring) : Type 0 where
  pub first : List ℕ
  pub start : ℕ
  pub starts : Numeral first start
  pub last : List ℕ
  pub end : ℕ
  pub ends : Numeral last end
  pub size : List ℕ
  pub span : ℕ
  pub spans : Numeral size span
  pub room : r.next ≤ length t
  pub split : t ≡ first ++ 45 ∷ (last ++ 99 ∷ 121 ∷ (size ++ 93 ∷ drop r.next t))
  pub closes : ring_of start end span carbon ≡ Cycle r.what

-- the rings of an array
abbrev pub rings_in : ℕ → List Ring → List Ring
rings_in n xs = take n xs

-- the ring that segments start with, or none, and what is left where more or nothing may follow
pub record RingFirst (w : ℕ) (v : List ℕ) (zs : List Ring) (r : Listed) : Type 0 where
  pub room : r.rest ≤ length v
  pub few : r.count ≤ max_rings
  pub stored : r.count ≤ length zs
  pub follows : Follows (drop r.rest v) → Follows v
  pub says : Follows (drop r.rest v) → (p : ChainPrefix) (l : List DbPos) → length l ≤ max_bonds → segments v (bonded p w l) ≡ segments (drop r.rest v) (laden p w l [] (rings_in r.count zs))

-- ---- the start of the token

-- a list or none after the bond count, and what is left where segments or nothing may follow
pub record Lists (u : List ℕ) (ys : List DbPos) (r : Listed) : Type 0 where
  pub room : r.rest ≤ length u
  pub few : r.count ≤ max_bonds
  pub stored : r.count ≤ length ys
  pub passed : Passed u (drop r.rest u)
  pub start : may_follow (drop r.rest u) ≡ true → digit_run u ≡ 0
  pub says : may_follow (drop r.rest u) ≡ true → (declared : ℕ) (p : ChainPrefix) (w : ℕ)
      → after_count declared u (no_features p w w false) ≡ rest_of (missing_of w (bonds_in r.count ys) declared) (drop r.rest u) (bonded p w (bonds_in r.count ys))

-- what is left of a token of at most 255 bytes
abbrev pub left_of : Usual → List ℕ → List DbPos → List Mod → List Ring → Outcome
left_of r s ys hs zs =
    rest_of (missing_of r.carbon (bonds_in r.count ys) r.declared) (drop r.rest s) (laden r.prefix r.carbon (bonds_in r.count ys) (groups_in r.groups hs) (rings_in r.rings zs))

pub record Starts (s : List ℕ) (ys : List DbPos) (hs : List Mod) (zs : List Ring) (r : Usual) : Type 0 where
  pub room : r.rest ≤ length s
  pub few : r.carbon ≤ max_carbons
  pub listed : r.count ≤ max_bonds
  pub stored : r.count ≤ length ys
  pub grown : r.groups ≤ max_groups
  pub kept : r.groups ≤ length hs
  pub closed : r.rings ≤ max_rings
  pub held : r.rings ≤ length zs
  pub says : token_of s ≡ left_of r s ys hs zs

-- ---- the token

-- r is what is judged of a chain of which all is read
pub record Plain (p : ChainPrefix) (w : ℕ) (m : Option ℕ) (n k j : ℕ) (r : Result ReadChain Refusal) : Type 0 where
  pub tells : (bs : List DbPos) (gs : List Mod) (rs : List Ring) → n ≤ max_bonds → n ≤ length bs → k ≤ max_groups → k ≤ length gs → j ≤ max_rings → j ≤ length rs
      → Tells r bs gs rs (finished m (laden p w (bonds_in n bs) (groups_in k gs) (rings_in j rs)))

pub record PlainIn (p : ChainPrefix) (w declared n k j : ℕ) (bs : List DbPos) (r : Result ReadChain Refusal) : Type 0 where
  pub tells : (gs : List Mod) (rs : List Ring) → n ≤ max_bonds → n ≤ length bs → k ≤ max_groups → k ≤ length gs → j ≤ max_rings → j ≤ length rs
      → Tells r bs gs rs (finished (missing_of w (bonds_in n bs) declared) (laden p w (bonds_in n bs) (groups_in k gs) (rings_in j rs)))
