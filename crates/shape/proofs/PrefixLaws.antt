-- The test of a Prefix, exit by exit. Assumes nothing.
use Prim.Native.Nat.{ℕ, ◌+◌, ◌-◌, ◌≤◌}
use mathlib.Core.Path.{◌≡◌}
use mathlib.Core.List.{List}
use mathlib.Core.Bool.{Bool}
use native.Mathlib.Omega.{arith}
use lib.ListN.{length}
use Rattle.layout.specs.Number.{le}
use Rattle.layout.specs.Place.{prefix_child, prefix_length, prefix_zero, prefix_bytes}
use Rattle.pieces.specs.Decides.{Decides}
use Rattle.pieces.specs.Range.{Blank}
use Rattle.shape.specs.Shape.{PrefixHere}
use Rattle.pieces.proofs.DecideLaws.{handed}
use Rattle.shape.proofs.ZeroLaws.{blank_zero, zero_blank}
use Rattle.shape.proofs.BytesLaws.{bytes_from, bytes_long, bytes_text}

module _ (f : List ℕ) (o n : ℕ) (long : n ≡ le 2 f (o + prefix_length)) where
  pub prefix_long : PrefixHere f o → (1 ≤ n) × (n ≤ 112)
  prefix_long p = let q = p.is in omega arith

  pub prefix_blank : PrefixHere f o → Blank f (o + prefix_zero) (o + prefix_bytes)
  prefix_blank p a x y = zero_blank f (o + prefix_zero) 10 p.is.zeros a x (omega arith)

  pub prefix_rest : PrefixHere f o → Blank f (o + prefix_bytes + n) (o + 128)
  prefix_rest p a x y =
      let q = p.is in
      zero_blank f (o + prefix_bytes + length p.bytes) (112 - length p.bytes) q.rest a (omega arith) (omega arith)

  pub prefix_end : {r : Bool} → o + 128 ≤ length f → 1 ≤ n → n ≤ 112 → Blank f (o + prefix_zero) (o + prefix_bytes)
      → Decides (Blank f (o + prefix_bytes + n) (o + 128)) r → Decides (PrefixHere f o) r
  prefix_end room low high ten D =
      let s = bytes_long f (o + prefix_bytes) n in
      handed D
      (λ rest. record {
        bytes = bytes_from f (o + prefix_bytes) n;
        child = le 4 f (o + prefix_child);
        is = record {
          room = room;
          some = omega arith;
          most = omega arith;
          child = cc;
          long = omega arith;
          zeros = blank_zero f (o + prefix_zero) 10 (λ a x y. ten a x (omega arith));
          text = bytes_text f (o + prefix_bytes) n;
          rest = λ i l. rest (o + prefix_bytes + length (bytes_from f (o + prefix_bytes) n) + i) (omega arith) (omega arith);
        };
      }) prefix_rest
