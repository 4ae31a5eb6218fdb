-- In edition 2 the walked string without its end, or with its first byte; of no byte, nothing. Assumes nothing.
use native.Mathlib.Omega.{arith}
use Rattle.model.proofs.Edition2.{escaped_length}
use Rattle.keys.proofs.EscapeLaws.{long_two}
use Rattle.names.proofs.SoughtLaws.{spelt_first, spelt_past, spelt_text, spelt_none}
use Rattle.names.proofs.entry.spelt.Goals as goal

pub spell-n-requires : goal.spell-n-requires
spell-n-requires c =
    let r = rw c.in-Second-2.is at c.requires.0 in
    let h = escaped_length c.args.text.now in
    (omega (arith, c.requires.2), c.requires.1)

pub overflow_sub-result : goal.overflow_sub-result
overflow_sub-result c = let h = long_two c.args.text.now in let n = c.spell-n.ensures.long in omega arith

pub overflow_sub-result-else-tail-eq-PAST_KEY : goal.overflow_sub-result-else-tail-eq-PAST_KEY
overflow_sub-result-else-tail-eq-PAST_KEY c = let h = long_two c.args.text.now in let n = c.spell-n.ensures.long in omega arith

pub returns-in-First : goal.returns-in-First
returns-in-First c = rw c.in-First.is (spelt_first _ _ _)

pub returns-in-Second : goal.returns-in-Second
returns-in-Second c = rw c.in-Second.is (spelt_none _ _ _ c.if-is_empty.ensures (λ z. omega (arith, c.if-tail-ne-PAST_KEY.true)))

pub returns-then-tail-eq-PAST_KEY : goal.returns-then-tail-eq-PAST_KEY
returns-then-tail-eq-PAST_KEY c = rw c.in-Second-2.is (spelt_past _ _ c.spell-n.ensures c.if-tail-eq-PAST_KEY.true)

pub returns-else-tail-eq-PAST_KEY : goal.returns-else-tail-eq-PAST_KEY
returns-else-tail-eq-PAST_KEY c = rw c.in-Second-2.is (spelt_text _ _ c.spell-n.ensures c.if-tail-eq-PAST_KEY.false)
