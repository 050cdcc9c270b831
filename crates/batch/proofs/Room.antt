-- How long a row of the output is: a reply has room in the length of the line slice, five bytes to a number of the index slice, and 20 bytes more. So a row that is begun
-- in a slice with that much room is written whole. Assumes nothing.
use Prim.Native.Nat.{ℕ, ◌+◌, ◌*◌, ◌≤◌, ◌<◌}
use native.Mathlib.Omega.{arith}
use mathlib.Core.Path.{◌≡◌, refl, sym, ap}
use mathlib.Core.Bool.{Bool, true, false, cond, not}
use mathlib.Core.List.{List, [], ◌∷◌, map}
use lib.ListN.{length, take, length-append}
use lib.Dec.{ltb}
use borrow.Author.Tests.{ltb-false}
use Rattle.std.specs.Prelude.{Option, Some, None}
use Rattle.writer.specs.emit.Text.{decimal}
use Rattle.chain_record.specs.plain.Chain.{Chain}
use Rattle.reading_rules.specs.reading.Parting.{joined}
use Rattle.reading_rules.proofs.reading.PartingLaws.{All}
use Rattle.template_rules.specs.declared.Class.{Class}
use Rattle.template_rules.specs.Drawn.{Placed, placed, by_sn}
use Rattle.template_rules.specs.Written.{indices_of, all_indices, index_of, line_of}
use Rattle.template_rules.proofs.Sorted.{all-sorted, length-sorted}
use Rattle.template_rules.proofs.Theorem.{Accepted, indices-small}
use Rattle.placement.proofs.chain_notes.Ready.{sns-few}
use Rattle.judge.specs.Verdict.{Verdict, Refused, Drawable, verdict, is_refusal}
use Rattle.judge.proofs.Accepted.{judged-accepted, refused-number}
use Rattle.chain_lists.proofs.listing.PlacedLaws.{places-few}
use Rattle.forward.specs.Answer.{short}
use Rattle.sheet_input.specs.declared.header.Column.TheVariants.{Class as ClassColumn, Tail, Sn1, Sn2, Sn3, Sn4}
use Rattle.sheet_input.specs.declared.header.Plan.{Plan}
use Rattle.sheet_input.specs.declared.sheet.Asked.{Asked}
use Rattle.sheet_input.specs.sheet.Cells.{cell_of, sn_cells}
use Rattle.sheet_input.specs.sheet.Sheet.{request_of, told}
use Rattle.sheet_input.proofs.sheet.Requested.{asked-nothing, asked-request, asked-count}
use Rattle.sheet_output.specs.rows.Text.{chain_text, chains_text}
use Rattle.sheet_frame.specs.tally.Counts.{answers}
use Rattle.sheet_frame.proofs.row_heads.Room.{digits-few, total, joined-total, numbers-total, row-length}
use Rattle.sheet_frame.specs.beginning.Beginning.{refused, reply_text}
use Rattle.batch.specs.Reply.{carbons_in, accepted, line_room, reply_to, reply_of}
use Rattle.chain_rules.proofs.chain.Lists.{or_left, or_right}
use Rattle.batch.proofs.Tallied.{refusal-small}

-- ---- the chains

chain_length : (p : Placed) → (1 ≤ p.sn) × (p.sn ≤ 4) → All (λ j. j < 4000) (indices_of p) → length (chain_text (carbons_in p)) ≤ 2 + 5 * length (indices_of p)
unfolding chain_text carbons_in
chain_length p n a =
    let d : length (decimal p.sn) ≤ 1 = digits-few 0 p.sn (omega (arith, n.1)) in
    omega (arith, d, length-append (decimal p.sn) (58 ∷ joined 46 (map decimal (indices_of p))), joined-total 46 (map decimal (indices_of p)), numbers-total (indices_of p) a)

chains-total : (ps : List Placed) → All (λ p. (1 ≤ p.sn) × (p.sn ≤ 4)) ps → All (λ p. All (λ j. j < 4000) (indices_of p)) ps
    → total (map chain_text (map carbons_in ps)) ≤ 3 * length ps + 5 * length (all_indices ps)
unfolding total all_indices
chains-total [] n a = omega arith
chains-total (p ∷ ps) n a =
    omega (arith, chain_length p n.0 a.0, chains-total ps n.1 a.1, length-append (indices_of p) (all_indices ps))

-- ---- a reply

refused-room : (n q : ℕ) → n < answers → q ≤ 4 → length (reply_text (refused n q)) ≤ 7
unfolding reply_text chains_text joined
refused-room n q h k = omega (arith, row-length n q [] [], digits-few 1 n (omega arith), digits-few 0 q (omega arith))

accepted-room : (c : Class) (swap : Bool) (t : List ℕ) (ds : List Chain) (line index : ℕ) → Accepted c t ds → short c swap t ds line index ≡ false
    → length (reply_text (accepted c swap t ds)) ≤ line + 5 * index + 20
unfolding reply_text accepted short chains_text index_of
accepted-room c swap t ds line index a e =
    let ps : List Placed = by_sn (placed c t ds) in
    let l : length (line_of c swap t ds) ≤ line = ltb-false line (length (line_of c swap t ds)) (or_left _ _ e) in
    let i : length (all_indices ps) ≤ index = ltb-false index (length (all_indices ps)) (or_right (ltb line (length (line_of c swap t ds))) _ e) in
    let few : length ps ≤ 4 = omega (arith, length-sorted (placed c t ds), places-few c t ds) in
    let w : total (map chain_text (map carbons_in ps)) ≤ 3 * length ps + 5 * length (all_indices ps)
    = chains-total ps (all-sorted (λ p. (1 ≤ p.sn) × (p.sn ≤ 4)) (placed c t ds) (sns-few c t ds))
    (all-sorted (λ p. All (λ j. j < 4000) (indices_of p)) (placed c t ds) (indices-small c t ds a)) in
    let z : length (decimal 0) ≤ 1 = digits-few 0 0 (omega arith) in
    omega (arith, row-length 0 0 (line_of c swap t ds) (map carbons_in ps), joined-total 59 (map chain_text (map carbons_in ps)), l, i, few, w, z)

-- every reply to a row, for an index slice of this length
pub reply-room : (p : Plan) (row : List ℕ) (index : ℕ) → length (reply_text (reply_of (request_of p row) index)) ≤ line_room + 5 * index + 20
reply-room p row index = go (told (request_of p row)) refl
  where
    drawn : (swap : Bool) (t : List ℕ) (v : Verdict) → ((n q : ℕ) → v ≡ Refused n q → (is_refusal n ≡ true) × (q ≤ 4)) → ((c : Class) (ds : List Chain) → v ≡ Drawable c ds → Accepted c t ds)
        → length (reply_text (reply_to v swap t index)) ≤ line_room + 5 * index + 20
    drawn swap t (Refused n q) f g = let z = f n q refl in omega (arith, refused-room n q (refusal-small n z.0) z.1)
    drawn swap t (Drawable c ds) f g = whole (short c swap t ds line_room index) refl
      where
        whole : (b : Bool) → short c swap t ds line_room index ≡ b → length (reply_text (cond b (refused 41 0) (accepted c swap t ds))) ≤ line_room + 5 * index + 20
        whole true e = omega (arith, refused-room 41 0 (omega arith) (omega arith))
        whole false e = accepted-room c swap t ds line_room index (g c ds refl) e

    go : (o : Option Asked) → told (request_of p row) ≡ o → length (reply_text (reply_of (request_of p row) index)) ≤ line_room + 5 * index + 20
    go (Some a) e =
        let ts : List (List ℕ) = take a.count (sn_cells p row) in
        let n : length ts ≡ a.count = sym (asked-count p row (told (request_of p row)) refl a e) in
        rw (asked-request p row (told (request_of p row)) refl a e, n)
        (drawn a.swap (cell_of p Tail row) (verdict (cell_of p ClassColumn row) (cell_of p Tail row) a.count ts)
        (refused-number (cell_of p ClassColumn row) (cell_of p Tail row) a.count (cell_of p Sn1 row) (cell_of p Sn2 row) (cell_of p Sn3 row) (cell_of p Sn4 row))
        (judged-accepted (cell_of p ClassColumn row) (cell_of p Tail row) a.count (cell_of p Sn1 row) (cell_of p Sn2 row) (cell_of p Sn3 row) (cell_of p Sn4 row)))
    go None e = rw (asked-nothing p row (told (request_of p row)) refl e) (omega (arith, refused-room 42 0 (omega arith) (omega arith)))
