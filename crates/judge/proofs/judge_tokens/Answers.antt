use native.Mathlib.Omega.{arith}
use mathlib.Core.Path.{refl, sym}
use lib.ListN.{set, length-map}
use Rattle.std.proofs.Common.{ℕ, List, Bor, ◌≤◌, length}
use Rattle.judge.specs.Judged.{firsts_of}
use Rattle.judge.proofs.Laws.{texts, in-place, met-first, met-clear, met_next}
use Rattle.judge.proofs.Judging.{token-refused, tokens-faulty, tokens-drawable}
use Rattle.judge.proofs.judge_tokens.Goals as goal

-- there are as many texts as tokens
enough : (ts : List (Bor (List ℕ))) (n k : ℕ) → k ≤ length ts → n ≤ k → n ≤ length (texts ts)
enough ts n k h f = omega (arith, length-map ts (λ t. t.now))

pub loop-i-init : goal.loop-i-init
loop-i-init c = record { met = met-first c.args.class (firsts_of c.new-faults.result) c.new-faults.ensures; four = c.told-shapes }

pub returns-in-Err : goal.returns-in-Err
returns-in-Err c =
    let a = c.args in
    let l = c.loop-i in
    token-refused (texts a.tokens.now) a.class a.tail.now c.see.result (firsts_of l.faults) l.shapes l.shapes l.lists (set l.lists l.i c.see.new.part) c.see.new.part l.i a.count c.in-Err.refusal
    (omega (arith, l.invariant.four, c.requires.count_bound)) (omega (arith, l.auto.lists, c.requires.count_in_bounds)) (enough a.tokens.now a.count 4 (omega (arith, c.told-tokens)) c.requires.count_bound) c.loop-i-test.true
    (in-place a.class _ l.i _ _ a.tokens.now _ refl c.role_of-role.ensures c.see.ensures) l.invariant.met c.in-Err.is

pub loop-i-preserved-then-nothing_due : goal.loop-i-preserved-then-nothing_due
loop-i-preserved-then-nothing_due c =
    let a = c.args in
    let l = c.loop-i in
    record {
      met = met-clear (texts a.tokens.now) a.class c.see.result (firsts_of l.faults) l.shapes l.lists c.see.new.part l.i a.count
          (omega (arith, l.invariant.four, c.requires.count_bound)) (omega (arith, l.auto.lists, c.requires.count_in_bounds)) (enough a.tokens.now a.count 4 (omega (arith, c.told-tokens)) c.requires.count_bound) c.loop-i-test.true
          (in-place a.class _ l.i _ _ a.tokens.now _ refl c.role_of-role.ensures c.see.ensures) l.invariant.met c.in-Ok.looked c.in-Ok.is c.keep_shape.new.shapes c.keep_shape.ensures (sym c.if-nothing_due.ensures);
      four = c.keep_shape.array_long;
    }

pub loop-i-preserved : goal.loop-i-preserved
loop-i-preserved c =
    let a = c.args in
    let l = c.loop-i in
    record {
      met = met_next (texts a.tokens.now) a.class c.see.result (firsts_of l.faults) l.shapes l.lists c.see.new.part l.i a.count
          (omega (arith, l.invariant.four, c.requires.count_bound)) (omega (arith, l.auto.lists, c.requires.count_in_bounds)) (enough a.tokens.now a.count 4 (omega (arith, c.told-tokens)) c.requires.count_bound) c.loop-i-test.true
          (in-place a.class _ l.i _ _ a.tokens.now _ refl c.role_of-role.ensures c.see.ensures) l.invariant.met c.in-Ok.looked c.in-Ok.is c.keep_shape.new.shapes c.keep_shape.ensures (firsts_of c.join-faults.result) c.join-faults.ensures;
      four = c.keep_shape.array_long;
    }

pub returns-in-Some : goal.returns-in-Some
returns-in-Some c =
    let a = c.args in
    let l = c.loop-i in
    tokens-faulty a.class a.tail.now c.wrong_tail.result c.wrong_tail.ensures (firsts_of l.faults) a.count l.shapes l.lists c.requires.count_bound (omega (arith, l.invariant.four, c.requires.count_bound))
    c.tail_atoms-tail_atoms.result c.tail_atoms-tail_atoms.ensures c.due.result c.due.ensures (texts a.tokens.now) l.i (omega (arith, c.loop-i-test.false, l.auto.i-end)) l.invariant.met c.in-Some.fault c.in-Some.is

pub returns : goal.returns
returns c =
    let a = c.args in
    let l = c.loop-i in
    tokens-drawable a.class a.tail.now c.wrong_tail.result c.wrong_tail.ensures (firsts_of l.faults) a.count l.shapes l.lists c.requires.count_bound (omega (arith, l.invariant.four, c.requires.count_bound))
    c.tail_atoms-tail_atoms.result c.tail_atoms-tail_atoms.ensures c.due.result c.due.ensures (texts a.tokens.now) l.i (omega (arith, c.loop-i-test.false, l.auto.i-end)) l.invariant.met c.in_default.is
