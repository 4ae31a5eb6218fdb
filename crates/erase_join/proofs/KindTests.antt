-- What a test of an entry's kind says of the number that the entry holds. Assumes nothing.
use Prim.Native.Nat.{ℕ, ◌+◌}
use mathlib.Core.Path.{◌≡◌, refl, sym, ap, ◌∙◌}
use mathlib.Core.Bool.{Bool, true, false, not}
use native.Mathlib.Omega.{arith}
use denote.Enum.Declared.{tag_of}
use denote.Enum.Bare.{tag_one, sameb, same_true, same_false, differs_true, differs_false}
use Rattle.layout.specs.contracts.kind.Kind.{the_type}
use Rattle.layout.specs.declared.kind.Kind.{Kind}
use Rattle.layout.specs.declared.kind.Kind.TheVariants as kind
use Rattle.layout.specs.Kind.{number_of}

-- kinds are numbered in the order of their names, from 1
tag_is : (k : Kind) → tag_of the_type k + 1 ≡ number_of k
tag_is kind.Leaf = refl
tag_is kind.Prefix = refl
tag_is kind.Crossing = refl
tag_is kind.Node4 = refl
tag_is kind.Node16 = refl
tag_is kind.Node48 = refl
tag_is kind.Node256 = refl
tag_is kind.EmptyRoot = refl

one_kind : (j k : Kind) → number_of j ≡ number_of k → j ≡ k
one_kind j k e = tag_one the_type tt j k (omega (arith, tag_is j, tag_is k))

-- j was read as the number n, which is h, and compared with k
module _ (j k : Kind) {r : Bool} {n h : ℕ} where
  pub kind_is : r ≡ sameb the_type j k → r ≡ true → number_of j ≡ n → n ≡ h → h ≡ number_of k
  kind_is er e en eh = sym (en ∙ eh) ∙ ap number_of (same_true the_type tt j k (sym er ∙ e))

  pub kind_is_not : r ≡ sameb the_type j k → r ≡ false → number_of j ≡ n → n ≡ h → h ≡ number_of k → ⊥
  kind_is_not er e en eh z = same_false the_type j k (sym er ∙ e) (one_kind j k (en ∙ eh ∙ z))

  -- the same of a test whether they differ
  pub kind_met : r ≡ not (sameb the_type j k) → r ≡ false → number_of j ≡ n → n ≡ h → h ≡ number_of k
  kind_met er e en eh = sym (en ∙ eh) ∙ ap number_of (differs_false the_type tt j k (sym er ∙ e))

  pub kind_differs : r ≡ not (sameb the_type j k) → r ≡ true → number_of j ≡ n → n ≡ h → h ≡ number_of k → ⊥
  kind_differs er e en eh z = differs_true the_type j k (sym er ∙ e) (one_kind j k (en ∙ eh ∙ z))
