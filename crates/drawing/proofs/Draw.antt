-- Laws of the drawing's ways out: a slice is too short, or line and indices are built where they are to stand.
-- Assumes nothing.
use Prim.Native.Nat.{ℕ, ◌≤◌, ◌<◌, ◌^◌}
use native.Mathlib.Omega.{arith}
use mathlib.Core.Path.{◌≡◌, sym, ◌∙◌}
use mathlib.Core.Bool.{Bool, true, false}
use mathlib.Core.List.{List}
use lib.ListN.{length}
use Rattle.writer.specs.emit.Text.{Written}
use Rattle.chain_record.specs.plain.Chain.{Chain}
use Rattle.drawn_chain.specs.declared.drawable.Shape.{Shape}
use Rattle.placement.specs.declared.chain_notes.Placed.{Placed}
use Rattle.drawn_chain.specs.drawable.Chains.{Chains}
use Rattle.drawn_chain.specs.declared.rooms.Lists as drawn
use Rattle.request_chains.specs.chain_shapes.Shapes.{chains_kept}
use Rattle.template_rules.specs.declared.Class.{Class}
use Rattle.template_rules.specs.Drawn.{placed}
use Rattle.template_rules.specs.Written.{indices_of, index_of}
use Rattle.line_builder.specs.Build.{rooms}
use Rattle.placement.specs.chain_notes.Fragment.{gathered}
use Rattle.chain_lists.specs.rising.Order.{places_in}
use Rattle.chain_lists.specs.declared.listing.Lists.{Lists}
use Rattle.chain_rules.proofs.chain.Lists.{all-each}
use Rattle.chain_lists.specs.listing.Lists.{lists_at, ListsHeld}
use Rattle.chain_lists.specs.indices.Index.{indices_at}
use Rattle.class_lines.specs.declared.lines.Line.{Line}
use Rattle.class_lines.specs.lines.Line.{Writes, Writable, LineIs, LineBuilt}
use Rattle.class_lines.specs.longest.Covered.{Slight}
use Rattle.class_lines.proofs.longest.Stood.{slight-placed}
use Rattle.answers.specs.declared.answer.Answer.{Answer}
use Rattle.answers.specs.answer.Answer.{refusal}
use Rattle.answers.specs.room.Ready.{Ready, Readied, ShortIs}
use Rattle.answers.proofs.room.Index.{index-length, index-alone}
use Rattle.answers.proofs.room.Laws.{index-room}
use Rattle.drawing.specs.Built.{Built}
use Rattle.drawing.specs.Draw.{ChainsDrawn, IndexRoom}
use Rattle.drawing.proofs.Answered.{short-answer, answered, indices-written}

-- the indices have room of their own, and then all can be written
module _ {c : Class} {t : List ℕ} {k : ℕ} {x : Chains} {vs ns rs : List ℕ} {os : List Placed} (n : IndexRoom c t k x (length ns)) (m : length rs ≡ 64) where
  some-writes : (ds : List Chain) → Ready c t k x ds → Writes c t k x (rooms vs ns rs os) ds
  some-writes ds w = record { own = w.own; told = w.told; room = record { index = n.room ds w; rows = omega (arith, m, w.rows, w.tokens) } }

  pub some-writable : Readied c t k x → Writable c t k x (rooms vs ns rs os)
  some-writable w = record { chains = w.chains; writes = some-writes w.chains w.ready }

module _ {c : Class} {swap : Bool} {t : List ℕ} {k : ℕ} {x : Chains} where
  pub short-drawn : {xs is : List ℕ} {b : Bool} {a : Answer} → ShortIs c swap t k x (length xs) (length is) b → b ≡ true → a ≡ refusal 41 0 → ChainsDrawn c swap t k x xs is xs is a
  short-drawn h e f = record { drawn = λ ds w. short-answer c swap t ds (sym (h.is ds w) ∙ e) f }

  pub long-slices : {n m : ℕ} {b : Bool} → ShortIs c swap t k x n m b → b ≡ false → ShortIs c swap t k x n m false
  long-slices h e = rw e at h

  -- those of one chain are built in their slice, which is long enough
  module _ {vs ns rs : List ℕ} {os : List Placed} (e : x.count ≡ 1) (m : length rs ≡ 16) (f : ShortIs c swap t k x (length vs) (length ns) false) where
    one_writes : (ds : List Chain) → Ready c t k x ds → Writes c t k x (rooms vs ns rs os) ds
    one_writes ds w =
        let long : length (index_of c t ds) ≤ length ns = index-room c swap t ds (length vs) (length ns) (sym (f.is ds w)) in
        record { own = w.own; told = w.told; room = record { index = omega (arith, long, index-length c t ds); rows = omega (arith, e, m, w.rows) } }

    pub one-writable : Readied c t k x → Writable c t k x (rooms vs ns rs os)
    one-writable w = record { chains = w.chains; writes = one_writes w.chains w.ready }

  module _ {vs zs ns js rs ss : List ℕ} {os ps : List Placed} {r : Line} where
    built : LineBuilt c swap t k x (rooms vs ns rs os) (rooms zs js ss ps) r → (ds : List Chain) → LineIs c swap t ds (rooms vs ns rs os) (rooms zs js ss ps) r
        → Built c swap t ds vs zs r.at r.count ps r.order r.sites js r.used
    built h ds i = record { text = i.text; places = i.chains; order = h.order; sites = h.sites; index = i.index }

    -- the indices are built in room of their own, and are then put in order
    pub drawn-some : (ls : Lists) {is qs : List ℕ} {d : ℕ} → LineBuilt c swap t k x (rooms vs ns rs os) (rooms zs js ss ps) r → IndexRoom c t k x (length ns) → length rs ≡ 64
        → length vs < 2 ^ 63 → ShortIs c swap t k x (length vs) (length is) false → ListsHeld (lists_at ps (places_in r.order)) ls
        → Written is 0 (indices_at ps js (places_in r.order)) qs d
        → ChainsDrawn c swap t k x vs is zs qs (record { number = 0; token = 0; length = r.at; lists = ls; sites = r.sites })
    drawn-some ls h n m u f g p =
        record {
          drawn = λ ds w.
              let b = built h ds (h.line ds (some-writes n m ds w)) in
              answered b ls u (sym (f.is ds w)) g (indices-written b p) b.text.elements;
        }

    -- one chain: its indices are the list, and are built in their slice too
    pub drawn-one : (ls : Lists) → x.count ≡ 1 → LineBuilt c swap t k x (rooms vs ns rs os) (rooms zs js ss ps) r → length rs ≡ 16 → length vs < 2 ^ 63
        → ShortIs c swap t k x (length vs) (length ns) false → ListsHeld (lists_at ps (places_in r.order)) ls
        → ChainsDrawn c swap t k x vs ns zs js (record { number = 0; token = 0; length = r.at; lists = ls; sites = r.sites })
    drawn-one ls e h m u f g =
        record {
          drawn = λ ds w.
              let i = h.line ds (one_writes e m f ds w) in
              let same : index_of c t ds ≡ gathered indices_of (placed c t ds) = index-alone c t ds (omega (arith, e, w.few)) in
              answered (built h ds i) ls u (sym (f.is ds w)) g (rw same i.indices.elements) i.text.elements;
        }

-- room for four of the longest chains
pub long-room : {c : Class} {t : List ℕ} {k : ℕ} {x : Chains} → IndexRoom c t k x 1020
long-room = record { room = λ ds w. omega (arith, w.index, w.tokens) }

-- room for four chains of which none is long
pub slight-room : {c : Class} {t : List ℕ} {k count : ℕ} {ns : List Shape} (l : List drawn.Lists) → Slight 30 count ns → IndexRoom c t k (chains_kept count ns l) 128
slight-room {c} {t} {k} {count} {ns} l h =
    record { room = λ ds w. omega (arith, w.lists 30 (all-each (λ p. p.chain.carbon ≤ 30) (placed c t ds) (slight-placed 30 c t ds count ns l w.own.stood h)), w.tokens) }
