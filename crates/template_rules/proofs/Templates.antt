-- What is asked of a template, as tests that compute, so that one theorem serves every template: the eight of 01 pass them.
-- Assumes nothing.
use Prim.Native.Nat.{ℕ, zero, suc, ◌+◌}
use mathlib.Core.Path.{◌≡◌, refl}
use mathlib.Core.Bool.{Bool, true, false, cond, not, ◌||◌, false≢true}
use mathlib.Core.Option.{Option, none, some}
use mathlib.Core.List.{List, [], ◌∷◌}
use lib.ListN.{length}
use lib.Dec.{ltb, leb}
use Rattle.scanner.specs.scan.Part.{same_bytes}
use Rattle.scanner.proofs.scan.Laws.{same-equal}
use Rattle.reading_rules.specs.reading.Ascii.{ascii}
use Rattle.reading_rules.specs.reading.Piece.{Piece, atom, mark, dot, lpar, rpar}
use Rattle.reading_rules.specs.reading.Lexer.{memb}
use Rattle.reading_rules.specs.reading.Parting.{◌>>=◌}
use Rattle.reading_rules.proofs.reading.Part.{none≢some}
use Rattle.reading_rules.specs.reading.Machine.{Phase, fresh, opened, after, marked, plainly}
use Rattle.reading_rules.specs.reading.Line.{below, distinct}
use Rattle.chain_rules.specs.declared.chain.Role.{Role}
use Rattle.chain_rules.specs.declared.chain.Role.TheVariants as role
use Rattle.chain_rules.specs.chain.Lists.{any_of, all_of, values_from}
use Rattle.chain_rules.proofs.chain.Branches.{unlabelled}
use Rattle.template_rules.specs.declared.Class.{Class}
use Rattle.template_rules.specs.declared.Class.TheVariants.{Fa, Gl1, Gl2, Gl3, Gp, Cl, Sb, Sa}
use Rattle.template_rules.specs.Template.{Element, fixed, tail, slot, chain, elements, most, role_of, has_tail}
use Rattle.template_rules.specs.Drawn.{fixed_pieces, atoms_of_pieces}

-- ---- a template's own pieces are a run

-- where the machine stands: how many branches are open, and its phase; or it has failed
pub data Turn : Type 0 where
  no : Turn
  to : ℕ → Phase → Turn

unfoldable pub turn_piece : Piece → ℕ → Phase → Turn
turn_piece (atom b []) k ph = to k after
turn_piece (atom b (l ∷ ls)) k ph = no
turn_piece (mark m) k fresh = no
turn_piece (mark m) k opened = to k (marked (plainly m))
turn_piece (mark m) k after = to k (marked (plainly m))
turn_piece (mark m) k (marked m') = no
turn_piece dot k fresh = no
turn_piece dot k opened = no
turn_piece dot k after = to k fresh
turn_piece dot k (marked m) = no
turn_piece lpar k fresh = no
turn_piece lpar k opened = no
turn_piece lpar k after = to (suc k) opened
turn_piece lpar k (marked m) = no
turn_piece rpar zero ph = no
turn_piece rpar (suc k) fresh = no
turn_piece rpar (suc k) opened = no
turn_piece rpar (suc k) after = to k after
turn_piece rpar (suc k) (marked m) = no

unfoldable pub and_turn : Turn → (ℕ → Phase → Turn) → Turn
and_turn no f = no
and_turn (to k ph) f = f k ph

unfoldable pub turn_pieces : List Piece → ℕ → Phase → Turn
unfolding turn_piece and_turn
turn_pieces [] k ph = to k ph
turn_pieces (u ∷ us) k ph = and_turn (turn_piece u k ph) (λ k' ph'. turn_pieces us k' ph')

-- a part hangs on an opening or an atom, a chain on an atom
unfoldable pub turn_tail : ℕ → Phase → Turn
turn_tail k fresh = no
turn_tail k opened = to k after
turn_tail k after = to k after
turn_tail k (marked m) = no

unfoldable pub turn_chain : ℕ → Phase → Turn
turn_chain k fresh = no
turn_chain k opened = no
turn_chain k after = to k after
turn_chain k (marked m) = no

unfoldable pub turn_element : Element → ℕ → Phase → Turn
unfolding turn_pieces fixed_pieces turn_tail turn_chain
turn_element (fixed b) k ph = turn_pieces (fixed_pieces b) k ph
turn_element tail k ph = turn_tail k ph
turn_element (slot sn) k ph = to k after
turn_element (chain sn r) k ph = turn_chain k ph

unfoldable pub turn_all : List Element → ℕ → Phase → Turn
unfolding turn_element and_turn
turn_all [] k ph = to k ph
turn_all (e ∷ es) k ph = and_turn (turn_element e k ph) (λ k' ph'. turn_all es k' ph')

-- it begins with nothing read, and ends after an atom with no branch open
unfoldable pub ends : Turn → Bool
ends no = false
ends (to zero fresh) = false
ends (to zero opened) = false
ends (to zero after) = true
ends (to zero (marked m)) = false
ends (to (suc k) ph) = false

-- ---- its chains

unfoldable pub sns_of : List Element → List ℕ
sns_of [] = []
sns_of (fixed b ∷ es) = sns_of es
sns_of (tail ∷ es) = sns_of es
sns_of (slot sn ∷ es) = sn ∷ sns_of es
sns_of (chain sn r ∷ es) = sn ∷ sns_of es

unfoldable pub same_role : Role → Role → Bool
same_role role.Slot role.Slot = true
same_role role.Slot role.Acyl = false
same_role role.Slot role.Base = false
same_role role.Acyl role.Slot = false
same_role role.Acyl role.Acyl = true
same_role role.Acyl role.Base = false
same_role role.Base role.Slot = false
same_role role.Base role.Acyl = false
same_role role.Base role.Base = true

-- each chain stands in a place of its role
unfoldable pub in_role : (ℕ → Role) → Element → Bool
unfolding same_role
in_role ρ (fixed b) = true
in_role ρ tail = true
in_role ρ (slot sn) = same_role (ρ sn) role.Slot
in_role ρ (chain sn r) = same_role (ρ sn) r

-- the template's own atoms have no labels
unfoldable pub is_bare : Element → Bool
unfolding unlabelled fixed_pieces
is_bare (fixed b) = unlabelled (fixed_pieces b)
is_bare tail = true
is_bare (slot sn) = true
is_bare (chain sn r) = true

unfoldable pub is_tailed : Element → Bool
is_tailed (fixed b) = false
is_tailed tail = true
is_tailed (slot sn) = false
is_tailed (chain sn r) = false

abbrev pub is_base : Role → Bool
is_base role.Slot = false
is_base role.Acyl = false
is_base role.Base = true

unfoldable pub has_base : Element → Bool
has_base (fixed b) = false
has_base tail = false
has_base (slot sn) = false
has_base (chain sn r) = is_base r

-- what follows a C at the beginning, and what follows a `(`
unfoldable pub after_c : List Piece → Option (List Piece)
unfolding same_bytes ascii
after_c [] = none
after_c (atom b [] ∷ us) = cond (same_bytes b (ascii "C")) (some us) none
after_c (atom b (l ∷ ls) ∷ us) = none
after_c (mark m ∷ us) = none
after_c (dot ∷ us) = none
after_c (lpar ∷ us) = none
after_c (rpar ∷ us) = none

unfoldable pub after_open : List Piece → Option (List Piece)
after_open [] = none
after_open (atom b ls ∷ us) = none
after_open (mark m ∷ us) = none
after_open (dot ∷ us) = none
after_open (lpar ∷ us) = some us
after_open (rpar ∷ us) = none

abbrev pub is_some : Option (List Piece) → Bool
is_some none = false
is_some (some us) = true

-- "The base's C1 and C2 are atoms 1 and 0": such a template begins with `C(C`
unfoldable pub begins_cc : List Piece → Bool
unfolding after_c after_open
begins_cc us = is_some (after_c us >>= after_open >>= after_c)

after-c : (us r : List Piece) → after_c us ≡ some r → us ≡ atom (ascii "C") [] ∷ r
unfolding after_c
after-c [] r h = absurd (none≢some h)
after-c (atom b [] ∷ us) r h = go (same_bytes b (ascii "C")) refl h
  where
    go : (x : Bool) → same_bytes b (ascii "C") ≡ x → cond x (some us) none ≡ some r → atom b [] ∷ us ≡ atom (ascii "C") [] ∷ r
    go true e q = let z : b ≡ ascii "C" = same-equal b (ascii "C") e in let w : us ≡ r = cc in rw (z, w)
    go false e q = absurd (none≢some q)
after-c (atom b (l ∷ ls) ∷ us) r h = absurd (none≢some h)
after-c (mark m ∷ us) r h = absurd (none≢some h)
after-c (dot ∷ us) r h = absurd (none≢some h)
after-c (lpar ∷ us) r h = absurd (none≢some h)
after-c (rpar ∷ us) r h = absurd (none≢some h)

after_open_lem : (us r : List Piece) → after_open us ≡ some r → us ≡ lpar ∷ r
unfolding after_open
after_open_lem [] r h = absurd (none≢some h)
after_open_lem (atom b ls ∷ us) r h = absurd (none≢some h)
after_open_lem (mark m ∷ us) r h = absurd (none≢some h)
after_open_lem (dot ∷ us) r h = absurd (none≢some h)
after_open_lem (lpar ∷ us) r h = cc
after_open_lem (rpar ∷ us) r h = absurd (none≢some h)

pub record Begins (us : List Piece) : Type 0 where
  pub rest : List Piece
  pub is : us ≡ atom (ascii "C") [] ∷ lpar ∷ atom (ascii "C") [] ∷ rest

pub begins : (us : List Piece) → begins_cc us ≡ true → Begins us
unfolding begins_cc
begins us h = first (after_c us) refl h
  where
    third : (a b : List Piece) → us ≡ atom (ascii "C") [] ∷ a → a ≡ lpar ∷ b → (o : Option (List Piece)) → after_c b ≡ o → is_some o ≡ true → Begins us
    third a b p q none e h = absurd (false≢true h)
    third a b p q (some c) e h = let z : b ≡ atom (ascii "C") [] ∷ c = after-c b c e in record { rest = c; is = cc }

    second : (a : List Piece) → us ≡ atom (ascii "C") [] ∷ a → (o : Option (List Piece)) → after_open a ≡ o → is_some (o >>= after_c) ≡ true → Begins us
    second a p none e h = absurd (false≢true h)
    second a p (some b) e h = third a b p (after_open_lem a b e) (after_c b) refl h

    first : (o : Option (List Piece)) → after_c us ≡ o → is_some (o >>= after_open >>= after_c) ≡ true → Begins us
    first none e h = absurd (false≢true h)
    first (some a) e h = second a (after-c us a e) (after_open a) refl h

unfoldable pub headed : List Element → Bool
unfolding begins_cc fixed_pieces
headed [] = false
headed (fixed b ∷ es) = begins_cc (fixed_pieces b)
headed (tail ∷ es) = false
headed (slot sn ∷ es) = false
headed (chain sn r ∷ es) = false

-- no more atoms than these
unfoldable pub most_atoms : List Element → ℕ
unfolding atoms_of_pieces fixed_pieces
most_atoms [] = 0
most_atoms (fixed b ∷ es) = atoms_of_pieces (fixed_pieces b) + most_atoms es
most_atoms (tail ∷ es) = 255 + most_atoms es
most_atoms (slot sn ∷ es) = 702 + most_atoms es
most_atoms (chain sn r ∷ es) = 701 + most_atoms es

-- ---- all tests

-- of a template for at most m tokens, whose chains have the roles ρ, with or without a tail
pub record Fitting (m : ℕ) (ρ : ℕ → Role) (tailed : Bool) (es : List Element) : Type 0 where
  pub runs : ends (turn_all es 0 fresh) ≡ true
  pub bare : all_of is_bare es ≡ true
  pub roles : all_of (in_role ρ) es ≡ true
  pub apart : distinct (sns_of es) ≡ true
  pub four : below 5 (sns_of es) ≡ true
  pub from_one : all_of (ltb 0) (sns_of es) ≡ true
  pub few : leb (length (sns_of es)) 4 ≡ true
  pub base : (not (any_of has_base es) || headed es) ≡ true
  pub tails : any_of is_tailed es ≡ tailed
  pub small : leb (most_atoms es) 4000 ≡ true
  pub places : all_of (λ sn. memb sn (sns_of es)) (values_from (λ k. k) 1 m) ≡ true

-- THE EIGHT TEMPLATES
pub fitting : (c : Class) → Fitting (most c) (role_of c) (has_tail c) (elements c)
unfolding memb values_from turn_all ends all_of any_of is_bare in_role distinct below sns_of has_base headed is_tailed most_atoms elements
fitting Fa = record { runs = refl; bare = refl; roles = refl; apart = refl; four = refl; from_one = refl; few = refl; base = refl; tails = refl; small = refl; places = refl }
fitting Gl1 = record { runs = refl; bare = refl; roles = refl; apart = refl; four = refl; from_one = refl; few = refl; base = refl; tails = refl; small = refl; places = refl }
fitting Gl2 = record { runs = refl; bare = refl; roles = refl; apart = refl; four = refl; from_one = refl; few = refl; base = refl; tails = refl; small = refl; places = refl }
fitting Gl3 = record { runs = refl; bare = refl; roles = refl; apart = refl; four = refl; from_one = refl; few = refl; base = refl; tails = refl; small = refl; places = refl }
fitting Gp = record { runs = refl; bare = refl; roles = refl; apart = refl; four = refl; from_one = refl; few = refl; base = refl; tails = refl; small = refl; places = refl }
fitting Cl = record { runs = refl; bare = refl; roles = refl; apart = refl; four = refl; from_one = refl; few = refl; base = refl; tails = refl; small = refl; places = refl }
fitting Sb = record { runs = refl; bare = refl; roles = refl; apart = refl; four = refl; from_one = refl; few = refl; base = refl; tails = refl; small = refl; places = refl }
fitting Sa = record { runs = refl; bare = refl; roles = refl; apart = refl; four = refl; from_one = refl; few = refl; base = refl; tails = refl; small = refl; places = refl }
