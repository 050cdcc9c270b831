-- Laws of the writer of the runs: what each turn leaves to write, and that there is room for it.
-- Assumes nothing.
use Prim.Native.Nat.{ℕ, suc, ◌+◌, ◌-◌, ◌*◌, ◌^◌, ◌≤◌, ◌<◌}
use native.Mathlib.Decide.{dec_le}
use native.Mathlib.Omega.{arith}
use mathlib.Core.Path.{◌≡◌, refl, ap, ◌∙◌}
use mathlib.Core.List.{List, [], ◌∷◌, ◌++◌, append-nil, append_assoc}
use lib.ListN.{length, drop, get_or}
use Rattle.writer.specs.emit.Text.{Written}
use Rattle.writer.proofs.emit.Laws.{written-nil, written-append, written-length}
use Rattle.chain_record.specs.declared.plain.Mod.{Mod}
use Rattle.drawn_chain.specs.drawable.Drawn.{no_group}
use Rattle.carbons.specs.Tokens.{Rising}
use Rattle.drawn_chain.proofs.drawable.Turns.{left_here}
use Rattle.drawn_chain.proofs.drawable.Turns as turns
use Rattle.carbons.proofs.Left.{Left, left-all, left_less, left-none, left-length}
use Rattle.chain_pieces.specs.branches.Text.{group_text}
use Rattle.chain_pieces.proofs.branches.Laws.{group-length}
use Rattle.chain_pieces.specs.runs.Links.{links_text, Links}
use Rattle.chain_pieces.proofs.runs.Laws.{links-room}
use Rattle.chain_text.specs.grouped_text.Text.{stop_of, next_text, rest_text}

-- ---- the next group

module _ (gs : List Mod) (i : ℕ) where
  pub stop-there : (c : ℕ) → i < length gs → (get_or gs i no_group).pos ≡ stop_of (drop i gs) c
  unfolding stop_of
  stop-there c h = rw (left_here gs i no_group (get_or gs i no_group) h refl)

  pub stop-last : (c : ℕ) → length gs ≤ i → c ≡ stop_of (drop i gs) c
  unfolding stop_of
  stop-last c h = rw (turns.left-none gs i h)

  pub next-there : {xs ys : List ℕ} {at p : ℕ} → i < length gs → Written xs at (group_text (get_or gs i no_group).row) ys p → Written xs at (next_text (drop i gs)) ys p
  unfolding next_text
  next-there h w = rw (left_here gs i no_group (get_or gs i no_group) h refl) w

  pub next-none : (xs : List ℕ) (at : ℕ) → at < 2 ^ 64 → length gs ≤ i → Written xs at (next_text (drop i gs)) xs at
  unfolding next_text
  next-none xs at b h = rw (turns.left-none gs i h) (written-nil xs at b)

-- the next group is on a carbon that is not written yet, or on the last that is, and no further than the last of the chain
pub stop-low : (j c : ℕ) (hs : List Mod) → 1 ≤ j → j ≤ c + 1 → Rising (j - 1) c hs → j ≤ stop_of hs c + 1
unfolding stop_of
stop-low j c [] a b w = b
stop-low j c (g ∷ hs) a b w =
    let low : j - 1 ≤ g.pos = w.0 in
    omega arith

pub stop-high : (j c : ℕ) (hs : List Mod) → Rising (j - 1) c hs → stop_of hs c ≤ c
unfolding stop_of
stop-high j c [] w = omega arith
stop-high j c (g ∷ hs) w = w.1

-- ---- a turn

-- before the turn of group i, or of the last run, the carbons before C j and the groups before that one are written; after the last turn
-- nothing is left
pub record Turn (bs : List ℕ) (c : ℕ) (gs : List Mod) (xs : List ℕ) (at : ℕ) (ts ys : List ℕ) (p j i : ℕ) : Type 0 where
  pub low : 1 ≤ j
  pub high : j ≤ c + 1
  pub rising : Rising (j - 1) c (drop i gs)
  pub room : p + ((c + 1 - j) * 2 + 14 * (length gs - i)) ≤ length ys
  pub more : i ≤ length gs → Left xs at ts ys p (rest_text bs j c (drop i gs))
  pub done : length gs < i → Left xs at ts ys p []

pub turn-first : {gs : List Mod} (bs : List ℕ) (c k : ℕ) (xs : List ℕ) (at : ℕ) → at < 2 ^ 64 → Rising (k - 1) c gs → 1 ≤ k → k ≤ c + 1
    → at + ((c + 1 - k) * 2 + 14 * length gs) ≤ length xs → Turn bs c gs xs at (rest_text bs k c gs) xs at k 0
turn-first {gs} bs c k xs at b w l h r =
    record {
      low = l;
      high = h;
      rising = w;
      room = omega arith;
      more = λ q. left-all xs at (rest_text bs k c gs) b;
      done = λ q. absurd (omega arith);
    }

-- a run where there is room for more leaves that room
run_room : {xs ys : List ℕ} {at p : ℕ} (bs : List ℕ) (j to c m : ℕ) → j ≤ to + 1 → to ≤ c → at + ((c + 1 - j) * 2 + 14 * m) ≤ length xs
    → Written xs at (links_text bs j (to + 1 - j)) ys p → p + ((c + 1 - (to + 1)) * 2 + 14 * m) ≤ length ys
run_room {xs} {ys} {at} {p} bs j to c m l h r w =
    let v : Links bs [] j (c + 7 * m) xs at ys p (to + 1) = record { low = l; high = omega arith; free = λ k a b. refl; text = w } in
    let z : at + (c + 7 * m + 1 - j) * 2 ≤ length xs = omega arith in
    omega (arith, links-room bs [] j (c + 7 * m) v z)

module _ {xs ys ts bs : List ℕ} {at p j c to : ℕ} {gs : List Mod} (i : ℕ) (v : Turn bs c gs xs at ts ys p j i) (e : to ≡ stop_of (drop i gs) c) where
  pub turn_low : j ≤ to + 1
  turn_low = rw e (stop-low j c (drop i gs) v.low v.high v.rising)

  turn-high : to ≤ c
  turn-high = rw e (stop-high j c (drop i gs) v.rising)

  pub turn-carbons : c ≤ 255 → to ≤ 255
  turn-carbons h = omega (arith, turn-high)

  pub turn-bonds : c < length bs → to < length bs
  turn-bonds h = omega (arith, turn-high)

  pub turn-room : p + (to + 1 - j) * 2 ≤ length ys
  turn-room = omega (arith, turn-high, turn_low, v.room)

  module _ {zs ws : List ℕ} {o r : ℕ} (h : length xs < 2 ^ 64) (q : i ≤ length gs) (u : Written ys p (links_text bs j (to + 1 - j)) zs o) (w : Written zs o (next_text (drop i gs)) ws r) where
    left : Left xs at ts ys p (rest_text bs j c (drop i gs))
    left = v.more q

    small : length ys < 2 ^ 64
    small = rw (left-length left) h

    -- a group's turn
    turn-group : i < length gs → Turn bs c gs xs at ts ws r (to + 1) (i + 1)
    unfolding stop_of next_text rest_text
    turn-group t =
        let g : Mod = get_or gs i no_group in
        let hs : List Mod = drop (i + 1) gs in
        let f : drop i gs ≡ g ∷ hs = left_here gs i no_group g t refl in
        let a : to ≡ g.pos = e ∙ ap (λ (us : List Mod). stop_of us c) f in
        let x : Rising (j - 1) c (g ∷ hs) = rw f at v.rising in
        let z : to + 1 - 1 ≡ g.pos = omega arith in
        let b : Written zs o (group_text g.row) ws r = rw f at w in
        let k : rest_text bs j c (drop i gs) ≡ (links_text bs j (to + 1 - j) ++ group_text g.row) ++ rest_text bs (to + 1) c hs
        = ap (rest_text bs j c) f ∙ (rw (a, append_assoc)) in
        record {
          low = omega arith;
          high = omega (arith, turn-high);
          rising = rw z x.2;
          room = omega (arith, run_room bs j to c (length gs - i) turn_low turn-high v.room u, b.next, group-length g.row, written-length b);
          more = λ d. left_less _ h left k (written-append small u b);
          done = λ d. absurd (omega arith);
        }

    -- the last run's
    turn_last : length gs ≤ i → Turn bs c gs xs at ts ws r (to + 1) (i + 1)
    unfolding stop_of next_text rest_text
    turn_last t =
        let f : drop i gs ≡ [] = turns.left-none gs i t in
        let d : drop (i + 1) gs ≡ [] = turns.left-none gs (i + 1) (omega arith) in
        let a : to ≡ c = e ∙ ap (λ (us : List Mod). stop_of us c) f in
        let b : Written zs o [] ws r = rw f at w in
        let k : rest_text bs j c (drop i gs) ≡ (links_text bs j (to + 1 - j) ++ []) ++ []
        = ap (rest_text bs j c) f ∙ (rw a (simp append-nil)) in
        record {
          low = omega arith;
          high = omega (arith, turn-high);
          rising = rw d tt;
          room = omega (arith, run_room bs j to c (length gs - i) turn_low turn-high v.room u, b.next, written-length b);
          more = λ l. absurd (omega arith);
          done = λ l. left_less _ h left k (written-append small u b);
        }

    pub turn-next : Turn bs c gs xs at ts ws r (to + 1) (i + 1)
    turn-next = go (dec_le (suc i) (length gs))
      where
        go : Dec (suc i ≤ length gs) → Turn bs c gs xs at ts ws r (to + 1) (i + 1)
        go (yes t) = turn-group t
        go (no t) = turn_last (omega arith)

module _ {xs ys ts bs : List ℕ} {at p j c i : ℕ} {gs : List Mod} (v : Turn bs c gs xs at ts ys p j i) (h : length gs < i) where
  pub turn-length : length ys ≡ length xs
  turn-length = left-length (v.done h)

  pub turns-end : Written xs at ts ys p
  turns-end = left-none (v.done h) refl
