-- The theorem of any order, of calls that were made. Assumes nothing.
use Prim.Native.Nat.{ℕ}
use mathlib.Core.Path.{◌≡◌, subst, ◌∙◌}
use mathlib.Core.List.{List, [], ◌∷◌, ◌++◌}
use lib.ListN.{length, take, drop}
use Rattle.editions.specs.declared.Edition.{Edition as Named}
use Rattle.editions.specs.Rules.{rules_of}
use Rattle.answers.specs.Number.{done_number}
use Rattle.demanded.specs.Orders.{told}
use Rattle.model.specs.Call.{Call}
use Rattle.demands.specs.Words.{OfBytes}
use Rattle.demands.proofs.DoneLaws.{good_called}
use Rattle.demanded.specs.declared.sequences.Three.{Three}
use Rattle.std.specs.Prelude.{Some}
use Rattle.demanded.specs.Sequences.{numbers, InRow, InTwoOrders, InAnyOrder}
use Rattle.demanded.proofs.DemandedLaws.{any_order, copied}

in_two_orders : (ed : Named) {f o p f' o' g' p' : List ℕ} {a b c : Call} {x y : Three} → OfBytes (rules_of ed) a → OfBytes (rules_of ed) b → OfBytes (rules_of ed) c → InRow (rules_of ed) f o (a ∷ b ∷ c ∷ []) x f' o' → InRow (rules_of ed) f p (c ∷ a ∷ b ∷ []) y g' p'
    → InTwoOrders (rules_of ed) f o p (a ∷ b ∷ c ∷ []) (c ∷ a ∷ b ∷ []) x y f' o' g' p'
in_two_orders ed {f} {o} {p} {f'} {o'} {g'} {p'} {a} {b} {c} {x} {y} ba bb bc F B = record {
  forth = F;
  back = B;
  same = λ s r t u v.
      let G = good_called (rules_of ed) f a (told x.first) F.made.0 F.made.1 r.0 in
      let q = any_order ed f (a ∷ b ∷ c ∷ []) (c ∷ a ∷ b ∷ []) (numbers x) (numbers y) f' g' G (ba, (bb, (bc, tt))) (bc, (ba, (bb, tt))) s F.made B.made r t in
      (q.0, q.1 o o' p p' (done_number x.packed) (done_number y.packed) F.packed B.packed u v);
}

-- h is the copy
pub in_any_order : (ed : Named) {a b c : Call} → OfBytes (rules_of ed) a → OfBytes (rules_of ed) b → OfBytes (rules_of ed) c → (g : List ℕ) {f o h p f' o' g' p' : List ℕ} {x y : Three} → length g ≡ length f → h ≡ take (length f) f ++ drop (length f) g
    → InRow (rules_of ed) f o (a ∷ b ∷ c ∷ []) x f' o' → InRow (rules_of ed) h p (c ∷ a ∷ b ∷ []) y g' p' → InAnyOrder (rules_of ed) f o g p a b c (Some (x, y)) f' o' g' p'
in_any_order ed {a} {b} {c} ba bb bc g {f} {p = p} {g' = g'} {p' = p'} {y = y} q z F B =
    (q, in_two_orders ed ba bb bc F (subst (λ (l : List ℕ). InRow (rules_of ed) l p (c ∷ a ∷ b ∷ []) y g' p') (z ∙ copied f g q) B))
