-- `replace` meets its contract: each need is one law of ReplaceLaws. Assumes nothing.
use native.Mathlib.Omega.{arith}
use Rattle.put_replace.proofs.ReplaceLaws.{body_room, stamp_fits, lengths, paste_ok, restamp_ok, ends_same, extend_ok, write_ok, retire_ok, ends_other}
use Rattle.put_replace.proofs.replace.Goals as goal

pub value_length-old-requires : goal.value_length-old-requires
value_length-old-requires c = body_room c.requires.holds

pub extent-was-requires : goal.extent-was-requires
extent-was-requires c = body_room c.requires.holds

pub paste-requires : goal.paste-requires
paste-requires c =
    paste_ok c.requires.holds c.value_length-old.ensures.0 c.extent-was.ensures.0 (omega arith)

pub restamp-requires : goal.restamp-requires
restamp-requires c =
    (restamp_ok c.requires.holds c.value_length-old.ensures.0 c.extent-was.ensures.0 (omega arith) c.paste.ensures, stamp_fits c.requires.holds)

pub returns-then-n-old : goal.returns-then-n-old
returns-then-n-old c = λ E A.
    ends_same A c.value_length-old.ensures.0 c.extent-was.ensures.0 (omega arith) c.paste.ensures c.restamp.ensures (λ a. omega (arith, c.slice_known-then-n-old-2-1.given a))

pub extend-extent-requires : goal.extend-extent-requires
extend-extent-requires c =
    extend_ok c.requires.holds c.value_length-old.ensures.0 (λ q. omega arith)

pub write-requires : goal.write-requires
write-requires c =
    write_ok c.requires.holds c.value_length-old.ensures.0 (λ q. omega arith) c.extend-extent.ensures

pub rounded-requires : goal.rounded-requires
rounded-requires c =
    omega (arith, lengths c.requires.holds c.value_length-old.ensures.0)

pub retire-requires : goal.retire-requires
retire-requires c =
    retire_ok c.requires.holds c.value_length-old.ensures.0 (λ q. omega arith) c.extend-extent.ensures c.write.ensures c.rounded.ensures c.extent-was.ensures.0

pub returns : goal.returns
returns c = λ E A.
    ends_other A c.value_length-old.ensures.0 (λ q. omega arith) c.extend-extent.ensures c.write.ensures c.rounded.ensures c.extent-was.ensures.0 c.retire.ensures (λ a. omega (arith, c.slice_known-4-1.given a))
