-- Laws of the opening of a token: one for each way out of its readers.
-- Assumes nothing.
use Prim.Native.Nat.{ℕ, zero, suc, ◌+◌, ◌-◌, ◌≤◌, ◌<◌}
use native.Mathlib.Omega.{arith}
use mathlib.Core.Path.{◌≡◌, refl, sym, ap, ◌∙◌}
use mathlib.Core.Bool.{Bool, true, false, not, cond, true≢false}
use mathlib.Core.List.{List, [], ◌∷◌}
use lib.ListN.{length, take, drop, get_or, length-drop}
use lib.Dec.{eqb, ltb}
use borrow.Author.Tests.{lt-ltb, le-ltb, ne_eqb, not-true, not-false, ltb-false}
use Rattle.scanner.specs.scan.Part.{starts_with}
use Rattle.scanner.specs.scan.Number.{is_digit, number_up_to, number_limit}
use Rattle.std.specs.Prelude.{Option, Some, None, Result, Ok, Err}
use Rattle.scanner.proofs.scan.Laws.{to_end, starts-length}
use Rattle.group_table.specs.groups.Groups.{methyl}
use Rattle.chain_record.specs.declared.plain.ChainPrefix.{ChainPrefix}
use Rattle.chain_record.specs.declared.plain.Mod.{Mod}
use Rattle.chain_record.specs.declared.plain.ChainPrefix.TheVariants.{Acyl, EtherAlkyl, EtherAlkenyl, SphingoidD, SphingoidT}
use Rattle.chain_record.specs.plain.Chain.{Chain, Read, Refused, no_features, with_group, max_carbons, unreadable, over_limit}
use Rattle.chain_record.specs.parsed.Parsed.{Grows, first, groups_as}
use Rattle.chain_record.proofs.parsed.Laws.{holds-none, stands_read}
use Rattle.token_head.specs.declared.opening.Branch.{Branch}
use Rattle.token_head.specs.declared.opening.Branch.TheVariants.{Straight, Iso, Anteiso}
use Rattle.token_head.specs.declared.opening.Start.{Start}
use Rattle.chain_record.specs.declared.refusal.Refusal.{Refusal}
use Rattle.chain_record.specs.declared.refusal.Refusal.TheVariants.{OverLimit, Unreadable}
use Rattle.token_head.specs.opening.Opening.{iso_text, anteiso_text, branch_of, branch_length, ether_text, alkenyl_text, sphingoid_of, before_digit, prefix_of, prefix_length, second_word, opening_of, branch_offset, branched, start_chain, carbons_by, carbons_of, Word, Prefixed, Opened, start_as, Starts}

-- ---- the branch word

module _ (s : List ℕ) (a : Bool) (e : a ≡ starts_with iso_text s) where
  pub word-iso : a ≡ true → Word s Iso
  unfolding branch_of
  word-iso t = record { is = rw (sym e ∙ t); room = starts-length iso_text s (sym e ∙ t) }

  module _ (n : a ≡ false) (b : Bool) (f : b ≡ starts_with anteiso_text s) where
    pub word-anteiso : b ≡ true → Word s Anteiso
    unfolding branch_of
    word-anteiso t = record { is = rw (sym e ∙ n, sym f ∙ t); room = starts-length anteiso_text s (sym f ∙ t) }

    pub word_none : b ≡ false → Word s Straight
    unfolding branch_of
    word_none t = record { is = rw (sym e ∙ n, sym f ∙ t); room = omega arith }

-- ---- the prefix

sphingoid-length : (b : ℕ) → prefix_length (sphingoid_of b) ≤ 1
unfolding sphingoid_of
sphingoid-length b = go (eqb b 100) (eqb b 68) (eqb b 116) (eqb b 84)
  where
    go : (w x y z : Bool) → prefix_length (cond w SphingoidD (cond x SphingoidD (cond y SphingoidT (cond z SphingoidT Acyl)))) ≤ 1
    go true x y z = omega arith
    go false true y z = omega arith
    go false false true z = omega arith
    go false false false true = omega arith
    go false false false false = omega arith

before-short : (s : List ℕ) → length s < 2 → before_digit s ≡ Acyl
unfolding before_digit
before-short [] h = refl
before-short (x ∷ []) h = refl
before-short (x ∷ y ∷ s) h = absurd (omega arith)

before-digit : (s : List ℕ) → 2 ≤ length s → before_digit s ≡ cond (is_digit (get_or s 1 0)) (sphingoid_of (get_or s 0 0)) Acyl
unfolding before_digit
before-digit [] h = absurd (omega arith)
before-digit (x ∷ []) h = absurd (omega arith)
before-digit (x ∷ y ∷ s) h = refl

module _ (s : List ℕ) (a : Bool) (e : a ≡ starts_with ether_text s) where
  pub prefix-ether : a ≡ true → Prefixed s EtherAlkyl
  unfolding prefix_of
  prefix-ether t = record { is = rw (sym e ∙ t); room = starts-length ether_text s (sym e ∙ t) }

  module _ (n : a ≡ false) (b : Bool) (f : b ≡ starts_with alkenyl_text s) where
    pub prefix-alkenyl : b ≡ true → Prefixed s EtherAlkenyl
    unfolding prefix_of
    prefix-alkenyl t = record { is = rw (sym e ∙ n, sym f ∙ t); room = starts-length alkenyl_text s (sym f ∙ t) }

    module _ (m : b ≡ false) where
      plain : prefix_of s ≡ before_digit s
      unfolding prefix_of
      plain = rw (sym e ∙ n, sym f ∙ m)

      pub prefix-short : length s < 2 → Prefixed s Acyl
      prefix-short h = record { is = sym (plain ∙ before-short s h); room = omega arith }

      pub prefix-other : (d : Bool) → 2 ≤ length s → d ≡ is_digit (get_or s 1 0) → not d ≡ true → Prefixed s Acyl
      prefix-other d h g t = record { is = sym (plain ∙ before-digit s h ∙ rw (sym g ∙ not-true d t)); room = omega arith }

      pub prefix-letter : (d : Bool) (r : ChainPrefix) → 2 ≤ length s → d ≡ is_digit (get_or s 1 0) → not d ≡ false → r ≡ sphingoid_of (get_or s 0 0) → Prefixed s r
      prefix-letter d r h g t k = record { is = sym (plain ∙ before-digit s h ∙ rw (sym g ∙ not-false d t) (sym k)); room = rw k (omega (arith, sphingoid-length (get_or s 0 0))) }

-- ---- the opening

module _ (t : List ℕ) (first : Branch) (n : ℕ) (prefix : ChainPrefix) (m : ℕ) (w : Word t first) (e : n ≡ branch_length first) (p : Prefixed (take (length t - n) (drop n t)) prefix) (f : m ≡ prefix_length prefix) where
  begun : opening_of t ≡ second_word first prefix (n + m) (drop m (drop n t))
  unfolding opening_of
  begun =
      let q : prefix ≡ prefix_of (drop n t) = rw (to_end n t) at p.is in
      rw (← w.is, ← e, ← q, ← f)

  room : n + m ≤ length t
  room = let q = rw (to_end n t, length-drop n t) at p.room in omega (arith, w.room)

  pub opened-iso : first ≡ Iso → Opened t (record { prefix = prefix; branch = first; carbons = n + m })
  opened-iso g = record { is = rw g (sym (begun ∙ rw g)); within = room }

  pub opened-anteiso : first ≡ Anteiso → Opened t (record { prefix = prefix; branch = first; carbons = n + m })
  opened-anteiso g = record { is = rw g (sym (begun ∙ rw g)); within = room }

  pub opened-straight : (second : Branch) (k : ℕ) → first ≡ Straight
      → Word (take (length (take (length t - n) (drop n t)) - m) (drop m (take (length t - n) (drop n t)))) second → k ≡ branch_length second
      → Opened t (record { prefix = prefix; branch = second; carbons = n + m + k })
  opened-straight second k g v h =
      let q : take (length (take (length t - n) (drop n t)) - m) (drop m (take (length t - n) (drop n t))) ≡ drop m (drop n t) = to_end m (take (length t - n) (drop n t)) ∙ ap (drop m) (to_end n t) in
      let z : Word (drop m (drop n t)) second = rw q at v in
      let l : branch_length second ≤ length t - n - m = rw (length-drop m (drop n t), length-drop n t) at z.room in
      record { is = sym (begun ∙ rw (g, ← z.is, ← h)); within = omega (arith, room) }

-- ---- the opening before a digit

-- a digit is no byte that is none
no_digit : (k y : ℕ) → is_digit k ≡ false → is_digit y ≡ true → y ≡ k → ⊥
no_digit k y n d e = true≢false (sym d ∙ ap is_digit e ∙ n)

other-first : (a : ℕ) (q : List ℕ) (y : ℕ) (s : List ℕ) → (y ≡ a → ⊥) → starts_with (a ∷ q) (y ∷ s) ≡ false
unfolding starts_with
other-first a q y s n = rw (ne_eqb y a n)

other-second : (a b : ℕ) (q : List ℕ) (x y : ℕ) (s : List ℕ) → (y ≡ b → ⊥) → starts_with (a ∷ b ∷ q) (x ∷ y ∷ s) ≡ false
unfolding starts_with
other-second a b q x y s n = rw (ne_eqb y b n) (go (eqb x a))
  where
    go : (c : Bool) → cond c false false ≡ false
    go true = refl
    go false = refl

module _ (x y : ℕ) (s : List ℕ) (d : is_digit y ≡ true) where
  straight-here : branch_of (y ∷ s) ≡ Straight
  unfolding branch_of is_digit
  straight-here = rw (other-first 105 _ y s (no_digit 105 y refl d), other-first 97 _ y s (no_digit 97 y refl d))

  straight-next : branch_of (x ∷ y ∷ s) ≡ Straight
  unfolding branch_of is_digit
  straight-next = rw (other-second 105 115 _ x y s (no_digit 115 y refl d), other-second 97 110 _ x y s (no_digit 110 y refl d))

  prefix-next : prefix_of (x ∷ y ∷ s) ≡ sphingoid_of x
  unfolding prefix_of before_digit is_digit
  prefix-next = rw (other-second 79 45 _ x y s (no_digit 45 y refl d), other-second 80 45 _ x y s (no_digit 45 y refl d), d)

  straight-after : (m : ℕ) → m ≤ 1 → branch_of (drop m (x ∷ y ∷ s)) ≡ Straight
  straight-after zero h = straight-next
  straight-after (suc zero) h = straight-here
  straight-after (suc (suc m)) h = absurd (omega arith)

  opening-digit : opening_of (x ∷ y ∷ s) ≡ record { prefix = sphingoid_of x; branch = Straight; carbons = prefix_length (sphingoid_of x) }
  unfolding opening_of
  opening-digit =
      let z : 0 + prefix_length (sphingoid_of x) + 0 ≡ prefix_length (sphingoid_of x) = omega arith in
      rw (straight-next, prefix-next, straight-after (prefix_length (sphingoid_of x)) (sphingoid-length x), z)

pub opened-digit : (t : List ℕ) (d : Bool) (p : ChainPrefix) (m : ℕ) → 2 ≤ length t → d ≡ is_digit (get_or t 1 0) → not d ≡ false → p ≡ sphingoid_of (get_or t 0 0)
    → m ≡ prefix_length p → Opened t (record { prefix = p; branch = Straight; carbons = m })
opened-digit [] d p m h e n f g = absurd (omega arith)
opened-digit (x ∷ []) d p m h e n f g = absurd (omega arith)
opened-digit (x ∷ y ∷ s) d p m h e n f g =
    let k : is_digit y ≡ true = sym e ∙ not-false d n in
    rw (g, f) (record { is = sym (opening-digit x y s k); within = omega (arith, sphingoid-length x) })

-- ---- the carbons

module _ (p : ChainPrefix) (offset w : ℕ) where
  pub too_few : (gs : List Mod) → w < offset + 3 → Starts (Err Unreadable) gs (branched p offset w)
  unfolding branched
  too_few gs h = record { stands = λ bs rs. rw (lt-ltb w (offset + 3) h) refl }

  pub methyl-on : (m : ℕ) (gs ys : List Mod) → offset + 3 ≤ w → Grows groups_as (first 0 gs) (first m ys) (with_group (record { pos = w - 1 - offset; row = 1 }))
      → Starts (Ok (record { prefix = p; written = w; carbon = w - 1; branched = true; groups = m })) ys (branched p offset w)
  unfolding branched
  methyl-on m gs ys h t =
      record {
        stands = λ bs rs.
            let start : Start = record { prefix = p; written = w; carbon = w - 1; branched = true; groups = 0 } in
            rw (le-ltb w (offset + 3) h) ((t.takes (start_as start bs gs rs)).holds (no_features p w (w - 1) true) (holds-none p w (w - 1) true bs gs rs));
      }

module _ (p : ChainPrefix) (b : Branch) (w : ℕ) (gs : List Mod) where
  pub start-straight : b ≡ Straight → Starts (Ok (record { prefix = p; written = w; carbon = w; branched = false; groups = 0 })) gs (start_chain p b w)
  start-straight e = rw e (record { stands = λ bs rs. holds-none p w w false bs gs rs })

  pub start-iso : (o : ℕ) (r : Result Start Refusal) → b ≡ Iso → o ≡ branch_offset b → Starts r gs (branched p o w) → Starts r gs (start_chain p b w)
  start-iso o r e f s = let g : o ≡ 1 = f ∙ ap branch_offset e in rw e (rw g at s)

  pub start-anteiso : (o : ℕ) (r : Result Start Refusal) → b ≡ Anteiso → o ≡ branch_offset b → Starts r gs (branched p o w) → Starts r gs (start_chain p b w)
  start-anteiso o r e f s = let g : o ≡ 2 = f ∙ ap branch_offset e in rw e (rw g at s)

module _ (p : ChainPrefix) (b : Branch) (t : List ℕ) (v : Option ℕ) (e : v ≡ number_up_to 4294967295 t) (gs : List Mod) where
  pub carbons-unreadable : v ≡ None → Starts (Err Unreadable) gs (carbons_of p b t)
  unfolding carbons_of
  carbons-unreadable f = record { stands = λ bs rs. rw (sym e ∙ f) refl }

  pub carbons-over : (n : ℕ) → v ≡ Some n → 255 < n → Starts (Err OverLimit) gs (carbons_of p b t)
  unfolding carbons_of
  carbons-over n f h = record { stands = λ bs rs. rw (sym e ∙ f, lt-ltb max_carbons n h) refl }

  pub carbons-read : (n : ℕ) (r : Result Start Refusal) → v ≡ Some n → n ≤ 255 → Starts r gs (start_chain p b n) → Starts r gs (carbons_of p b t)
  unfolding carbons_of
  carbons-read n r f h s = record { stands = λ bs rs. rw (sym e ∙ f, le-ltb max_carbons n h) (s.stands bs rs) }

-- ---- what callers use: the chain that carbons give

branched-few : (p : ChainPrefix) (o w : ℕ) (d : Chain) → w ≤ 255 → branched p o w ≡ Read d → d.carbon ≤ max_carbons
unfolding branched with_group
branched-few p o w d l h = go (ltb w (o + 3)) h
  where
    c : Chain
    c = with_group (record { pos = w - 1 - o; row = methyl }) (no_features p w (w - 1) true)

    go : (b : Bool) → cond b (Refused unreadable) (Read c) ≡ Read d → d.carbon ≤ max_carbons
    go true h = let z : ◌≡◌ {A = ℕ} 0 1 = cc in absurd (omega arith)
    go false h = let z : c ≡ d = cc in rw (← z) (omega arith)

carbons-few : (p : ChainPrefix) (b : Branch) (t : List ℕ) (d : Chain) → carbons_of p b t ≡ Read d → d.carbon ≤ max_carbons
unfolding carbons_of
carbons-few p b t d h = value (number_up_to number_limit t) h
  where
    start : (b : Branch) (n : ℕ) → n ≤ 255 → start_chain p b n ≡ Read d → d.carbon ≤ max_carbons
    start Straight n l h = let z : no_features p n n false ≡ d = cc in rw (← z) l
    start Iso n l h = branched-few p 1 n d l h
    start Anteiso n l h = branched-few p 2 n d l h

    test : (x : Bool) (n : ℕ) → ltb max_carbons n ≡ x → cond x (Refused over_limit) (start_chain p b n) ≡ Read d → d.carbon ≤ max_carbons
    test true n e h = let z : ◌≡◌ {A = ℕ} 0 1 = cc in absurd (omega arith)
    test false n e h = start b n (ltb-false max_carbons n e) h

    value : (v : Option ℕ) → carbons_by p b v ≡ Read d → d.carbon ≤ max_carbons
    value (Some n) h = test (ltb max_carbons n) n refl h
    value None h = let z : ◌≡◌ {A = ℕ} 0 1 = cc in absurd (omega arith)

-- its carbons are within the limit
pub start-few : (p : ChainPrefix) (b : Branch) (t : List ℕ) (gs : List Mod) (r : Result Start Refusal) (s : Start) → Starts r gs (carbons_of p b t) → r ≡ Ok s → s.carbon ≤ max_carbons
start-few p b t gs r s w e =
    let v : Starts (Ok s) gs (carbons_of p b t) = rw e at w in
    let q = stands_read (start_as s [] gs []) (carbons_of p b t) (v.stands [] []) in
    omega (arith, carbons-few p b t q.0 q.1, q.2.carbon)
