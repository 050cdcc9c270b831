-- Laws of a line that is cut while its LF is looked for: of the loop over its bytes a turn and each way out.
-- Assumes nothing.
use Prim.Native.Nat.{ℕ, zero, suc, ◌+◌, ◌-◌, ◌≤◌, ◌<◌}
use native.Mathlib.Nat.{zero-add, add-zero, suc-add}
use native.Mathlib.Omega.{arith}
use mathlib.Core.Path.{◌≡◌, refl, sym, ap, ◌∙◌, subst}
use mathlib.Core.Bool.{Bool, true, false, cond}
use mathlib.Core.List.{List, [], ◌∷◌}
use lib.ListN.{length, get_or, set, take, drop, drop_of_length-le}
use lib.Seq.{drop-cons, take-nil, length-take-le}
use lib.Dec.{eqb}
use borrow.Author.Tests.{eq-eqb, ne_eqb, eqb-true, eqb-false}
use Rattle.scanner.specs.scan.Part.{Place, first_byte, index_of}
use Rattle.scanner.proofs.part.Laws.{first-within}
use Rattle.sheet_input.specs.cutting.Cut.{Cut, LineCut}
use Rattle.sheet_input.proofs.cutting.Laws.{Cutting, cut-start, cut-next, cut-last, cut-more}

-- the line that a text begins with
abbrev pub line_in : List ℕ → List ℕ
line_in t = take (index_of 10 t) t

line-long : (t : List ℕ) → length (line_in t) ≡ index_of 10 t
line-long t = length-take-le (index_of 10 t) t (first-within (λ x. eqb x 10) t)

-- ---- a text by its first byte

module _ (x : ℕ) (t : List ℕ) where
  line_on : (x ≡ 10 → ⊥) → line_in (x ∷ t) ≡ x ∷ line_in t
  unfolding first_byte
  line_on d = rw (ne_eqb x 10 d)

  lf-on : (x ≡ 10 → ⊥) → index_of 10 (x ∷ t) ≡ suc (index_of 10 t)
  unfolding first_byte
  lf-on d = rw (ne_eqb x 10 d)

  lf-here : x ≡ 10 → index_of 10 (x ∷ t) ≡ 0
  unfolding first_byte
  lf-here e = rw (eq-eqb x 10 e)

  tab-on : (x ≡ 9 → ⊥) → index_of 9 (x ∷ t) ≡ suc (index_of 9 t)
  unfolding first_byte
  tab-on d = rw (ne_eqb x 9 d)

  tab-here : x ≡ 9 → index_of 9 (x ∷ t) ≡ 0
  unfolding first_byte
  tab-here e = rw (eq-eqb x 9 e)

drop-take : (i k : ℕ) (l : List ℕ) → drop i (take (i + k) l) ≡ take k (drop i l)
drop-take zero k l = rw (zero-add k)
drop-take (suc i) k [] = rw (take-nil {A = ℕ} (suc i + k), take-nil {A = ℕ} k)
drop-take (suc i) k (x ∷ l) = rw (suc-add i k) (drop-take i k l)

drop-line : (i : ℕ) (t : List ℕ) → index_of 10 t ≡ i + index_of 10 (drop i t) → drop i (line_in t) ≡ line_in (drop i t)
drop-line i t e = ap (λ (n : ℕ). drop i (take n t)) e ∙ drop-take i (index_of 10 (drop i t)) t

-- ---- the loop

-- no LF is among the first i bytes of a text, n cells are cut of its line, and no tab is in what is read of the next
pub record Along (text starts : List ℕ) (i n : ℕ) : Type 0 where
  pub from : ℕ
  pub rest : List ℕ
  pub cutting : Cutting (line_in text) starts rest from n
  pub past : from ≤ i
  pub clear : index_of 10 text ≡ i + index_of 10 (drop i text)
  pub whole : index_of 9 rest ≡ i - from + index_of 9 (line_in (drop i text))

pub along-start : (text starts ks : List ℕ) → ks ≡ set starts 0 0 → Along text ks 0 0
along-start text starts ks e =
    record {
      from = 0;
      rest = line_in text;
      cutting = cut-start (line_in text) starts ks e;
      past = omega arith;
      clear = sym (zero-add (index_of 10 text));
      whole = sym (zero-add (index_of 9 (line_in text)));
    }

module _ (text starts : List ℕ) (i n : ℕ) (a : Along text starts i n) where
  module _ (h : i < length text) where
    byte : drop i text ≡ get_or text i 0 ∷ drop (i + 1) text
    byte = let z : suc i ≡ i + 1 = omega arith in drop-cons text i 0 h ∙ ap (λ (k : ℕ). get_or text i 0 ∷ drop k text) z

    no-lf : (get_or text i 0 ≡ 10 → ⊥) → index_of 10 (drop i text) ≡ suc (index_of 10 (drop (i + 1) text))
    no-lf d = ap (λ (t : List ℕ). index_of 10 t) byte ∙ lf-on (get_or text i 0) (drop (i + 1) text) d

    line-byte : (get_or text i 0 ≡ 10 → ⊥) → index_of 9 (line_in (drop i text)) ≡ index_of 9 (get_or text i 0 ∷ line_in (drop (i + 1) text))
    line-byte d = ap (λ (t : List ℕ). index_of 9 (line_in t)) byte ∙ ap (λ (t : List ℕ). index_of 9 t) (line_on (get_or text i 0) (drop (i + 1) text) d)

    along-byte : (get_or text i 0 ≡ 9 → ⊥) → (get_or text i 0 ≡ 10 → ⊥) → Along text starts (i + 1) n
    along-byte d e =
        let p = no-lf e in
        let q = line-byte e ∙ tab-on (get_or text i 0) (line_in (drop (i + 1) text)) d in
        record {
          from = a.from;
          rest = a.rest;
          cutting = a.cutting;
          past = omega (arith, a.past);
          clear = omega (arith, a.clear, p);
          whole = omega (arith, a.whole, a.past, q);
        }

    along-tab : (ks : List ℕ) → get_or text i 0 ≡ 9 → ks ≡ set starts (n + 1) (i + 1) → Along text ks (i + 1) (n + 1)
    along-tab ks e s =
        let d : get_or text i 0 ≡ 10 → ⊥ = λ z. omega arith in
        let p = no-lf d in
        let q = line-byte d ∙ tab-here (get_or text i 0) (line_in (drop (i + 1) text)) e in
        let k : ℕ = i - a.from in
        let w : a.from + (k + 1) ≡ i + 1 = omega (arith, a.past) in
        let l = line-long text in
        let f : Place a.rest (index_of 9 a.rest) k
        = record { is = omega (arith, a.whole, q); within = omega (arith, a.cutting.within, l, a.clear, p, a.past) } in
        let c = cut-more (line_in text) starts a.rest a.from n k ks a.cutting f (rw w s)
        (λ z. omega (arith, a.cutting.within, l, a.clear, p, a.past)) in
        let g : index_of 10 text ≡ i + 1 + index_of 10 (drop (i + 1) text) = omega (arith, a.clear, p) in
        let r = c.rest ∙ ap (λ (m : ℕ). drop m (line_in text)) w ∙ drop-line (i + 1) text g in
        let o = ap (λ (t : List ℕ). index_of 9 t) r in
        record {
          from = a.from + (k + 1);
          rest = take (length a.rest - (k + 1)) (drop (k + 1) a.rest);
          cutting = c;
          past = omega (arith, w);
          clear = g;
          whole = omega (arith, o, w);
        }

  -- the place after the byte is kept as the next start, whether it is one or not
  kept_next : (ks : List ℕ) → ks ≡ set starts (n + 1) (i + 1) → Along text ks i n
  kept_next ks s =
      record {
        from = a.from;
        rest = a.rest;
        cutting = cut-next (line_in text) starts a.rest a.from n (i + 1) ks s a.cutting;
        past = a.past;
        clear = a.clear;
        whole = a.whole;
      }

  module _ (ks : List ℕ) (s : ks ≡ set starts (n + 1) (i + 1)) where
    ends : index_of 10 (drop i text) ≡ 0 → LineCut text ks (record { cells = n + 1; end = i })
    unfolding first_byte
    ends p =
        let q : index_of 9 (line_in (drop i text)) ≡ 0 = ap (λ (m : ℕ). index_of 9 (take m (drop i text))) p in
        let k : ℕ = i - a.from in
        let w : a.from + (k + 1) ≡ i + 1 = omega (arith, a.past) in
        let l = line-long text in
        let f : Place a.rest (index_of 9 a.rest) k
        = record { is = omega (arith, a.whole, q); within = omega (arith, a.cutting.within, l, a.clear, p, a.past) } in
        let c = cut-last (line_in text) starts a.rest a.from n k ks a.cutting f (rw w s) (omega (arith, a.cutting.within, l, a.clear, p, a.past)) in
        let m : index_of 10 text ≡ i - 0 = omega (arith, a.clear, p) in
        record {
          end = record { is = omega (arith, a.clear, p); within = omega (arith, a.clear, p, first-within (λ x. eqb x 10) text) };
          cut = subst (λ (j : ℕ). Cut (take j text) ks (n + 1)) m c;
        }

    pub along-lf : i < length text → get_or text i 0 ≡ 10 → LineCut text ks (record { cells = n + 1; end = i })
    along-lf h e = ends (ap (λ (t : List ℕ). index_of 10 t) (byte h) ∙ lf-here (get_or text i 0) (drop (i + 1) text) e)

    all-read : length text ≤ i → LineCut text ks (record { cells = n + 1; end = i })
    unfolding first_byte
    all-read h = ends (ap (λ (t : List ℕ). index_of 10 t) (drop_of_length-le text h))

-- no LF is in the text
pub along-end : (text starts : List ℕ) (i n : ℕ) (ks : List ℕ) → Along text starts i n → i ≤ length text → length text ≤ i
    → ks ≡ set starts (n + 1) (length text + 1) → LineCut text ks (record { cells = n + 1; end = length text })
along-end text starts i n ks a h g s =
    let e : i ≡ length text = omega arith in
    let b : Along text starts (length text) n = subst (λ (j : ℕ). Along text starts j n) e a in
    all-read text starts (length text) n b ks s (omega arith)

-- a byte that is no LF, with the tabs that it is
pub along-next : (text starts : List ℕ) (i n m : ℕ) (ks : List ℕ) → Along text starts i n → i < length text → ks ≡ set starts (n + 1) (i + 1)
    → (get_or text i 0 ≡ 10 → ⊥) → m ≡ cond (eqb (get_or text i 0) 9) 1 0 → Along text ks (i + 1) (n + m)
along-next text starts i n m ks a h s d f = go (eqb (get_or text i 0) 9) refl f
  where
    go : (x : Bool) → eqb (get_or text i 0) 9 ≡ x → m ≡ cond x 1 0 → Along text ks (i + 1) (n + m)
    go true t o = rw o (along-tab text starts i n a h ks (eqb-true (get_or text i 0) 9 t) s)
    go false t o = rw (o, add-zero) (along-byte text ks i n (kept_next text starts i n a ks s) h (eqb-false (get_or text i 0) 9 t) d)

-- ---- a byte

pub tab-one : (b : ℕ) → b ≡ 9 → ◌≡◌ {A = ℕ} 1 (cond (eqb b 9) 1 0)
tab-one b e = rw (eq-eqb b 9 e)

pub tab-none : (b : ℕ) → (b ≡ 9 → ⊥) → ◌≡◌ {A = ℕ} 0 (cond (eqb b 9) 1 0)
tab-none b d = rw (ne_eqb b 9 d)
