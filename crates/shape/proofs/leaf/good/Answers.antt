-- `good` tells a good Leaf and its extent, with LeafLaws at each exit. Assumes nothing.
use Rattle.shape.proofs.LeafLaws.{leaf_read, leaf_denied, leaf_key_lem, leaf_end}
use Rattle.pieces.proofs.DecideLaws.{refuted, passed}
use Rattle.shape.proofs.leaf.good.Goals as goal

pub returns-then-not-key_led : goal.returns-then-not-key_led
returns-then-not-key_led g c =
    (leaf_denied (λ e n H. refuted c.key_led.ensures c.if-not-key_led.true-raw (leaf_key_lem (leaf_read c.extent-e.ensures.0 c.key_length-k.ensures.0 c.value_length.ensures.0 c.rounded-size.ensures) e n H)))

pub returns : goal.returns
returns g c =
    (leaf_end (leaf_read c.extent-e.ensures.0 c.key_length-k.ensures.0 c.value_length.ensures.0 c.rounded-size.ensures) c.requires.room.1 (passed c.extent_fits.ensures c.if-not-extent_fits.false-raw) (passed c.stamp_good.ensures c.if-not-stamp_good.false-raw) (passed c.key_led.ensures c.if-not-key_led.false-raw))
