-- The root, the sweep, the lists and the sums together (WholeLaws). Assumes nothing.
use mathlib.Core.Path.{refl}
use native.Mathlib.Omega.{arith}
use Rattle.editions.specs.Rules.{rules_of}
use Rattle.pieces.proofs.DecideLaws.{denied, refuted, passed}
use Rattle.audit.proofs.RuleLaws.{rule_before}
use Rattle.audit.proofs.WholeLaws.{whole_root, whole_unclean, whole_lists, whole_open, whole_good}
use Rattle.audit.proofs.whole.over.Goals as goal

pub returns-in_default : goal.returns-in_default
returns-in_default c =
    let p = c.requires in denied (λ G. whole_root p.header c.data_start.ensures.0 c.slots_given.ensures.0 c.next_byte.ensures.0 c.root.ensures.0 p.fresh (refl, refl, refl) c.root-2.ensures c.in_default.is (rule_before c.args.rule.wiped (rules_of c.args.rule.edition) G))

pub returns-then-not-unmarked : goal.returns-then-not-unmarked
returns-then-not-unmarked c =
    let p = c.requires in denied (whole_unclean p.header c.data_start.ensures.0 c.slots_given.ensures.0 c.next_byte.ensures.0 c.root.ensures.0 p.fresh (refl, refl, refl) (c.root-2.ensures.holds _ c.in-Some.is) c.args.rule.wiped (refuted c.unmarked.ensures c.if-not-unmarked.true-raw))

pub lists-requires-clause-tally : goal.lists-requires-clause-tally
lists-requires-clause-tally c = (c.root-2.ensures.holds _ c.in-Some.is).tally

pub returns-in_default-lists : goal.returns-in_default-lists
returns-in_default-lists c =
    let p = c.requires in denied (λ G. whole_lists p.header c.data_start.ensures.0 c.slots_given.ensures.0 c.next_byte.ensures.0 c.root.ensures.0 p.fresh (refl, refl, refl) (c.root-2.ensures.holds _ c.in-Some.is) c.lists.ensures c.in_default-lists.is (rule_before c.args.rule.wiped (rules_of c.args.rule.edition) G))

pub closes-requires : goal.closes-requires
closes-requires c =
    let h = c.requires.header.header in let J = (c.lists.ensures.holds _ c.in-Some-lists.is).tally in
    (omega (arith, h.size, h.limits), omega (arith, J.bytes, J.slots, h.given_in, h.slot_cap, c.slots_given.ensures.0))

pub returns : goal.returns
returns c =
    let p = c.requires in let K = c.root-2.ensures.holds _ c.in-Some.is in
    let J = c.lists.ensures.holds _ c.in-Some-lists.is in
    let C = c.closes.ensures in record {
      holds = λ e. whole_good p.header c.data_start.ensures.0 c.slots_given.ensures.0 c.next_byte.ensures.0 c.root.ensures.0 p.fresh (refl, refl, refl) K J c.args.rule.wiped (passed c.unmarked.ensures c.if-not-unmarked.false-raw) (C.holds e);
      fails = λ e G. whole_open p.header c.data_start.ensures.0 c.slots_given.ensures.0 c.next_byte.ensures.0 c.root.ensures.0 p.fresh (refl, refl, refl) K J (C.fails e) (rule_before c.args.rule.wiped (rules_of c.args.rule.edition) G);
    }
