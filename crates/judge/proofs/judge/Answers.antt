use Rattle.judge.specs.Verdict.{tokens}
use Rattle.judge.proofs.Judging.{count-four, room-enough, class-unknown, class-count, class-known}
use Rattle.judge.proofs.judge.Goals as goal

pub returns-in_default : goal.returns-in_default
returns-in_default c = search class-unknown

pub returns-then-wrong_count : goal.returns-then-wrong_count
returns-then-wrong_count c = search class-count

pub judge_tokens-requires : goal.judge_tokens-requires
judge_tokens-requires c = record { count_bound = search count-four; count_in_bounds = search room-enough }

pub returns : goal.returns
returns c =
    let a = c.args in
    class-known a.class.now a.tail.now a.count (tokens a.count a.sn1.now a.sn2.now a.sn3.now a.sn4.now) c.class_of.result c.class_of.ensures c.judge_tokens.new.shapes c.judge_tokens.new.lists c.in-Some.known
    c.wrong_count.result c.in-Some.is c.wrong_count.ensures c.judge_tokens.result c.if-wrong_count.false c.judge_tokens.ensures
