-- Demand 3: two calls on different keys in both orders, and which frames pack to the same bytes. Assumes nothing.
use Prim.Native.Nat.{ℕ, ◌≤◌}
use mathlib.Core.Path.{◌≡◌, sym, ◌∙◌}
use mathlib.Core.List.{List}
use mathlib.Core.Logic.{◌≢◌}
use Rattle.model.specs.Edition.{Edition, Lawful}
use Rattle.model.specs.Call.{Call, key_of, on_call, Called}
use Rattle.model.proofs.Commute.{commute}
use Rattle.model.proofs.StandsGood.{stands_good}
use Rattle.demands.specs.Words.{NotRefused, OfBytes}
use Rattle.demands.specs.Demands.{PackAlike, Demand3}
use Rattle.demands.proofs.DoneLaws.{good_called, differ, did, packed_of, packed_to}
use Rattle.demands.proofs.Sets.{one_set}

module _ {E : Edition} (L : Lawful E) (faults : (k : List ℕ) → E.key_fault k ≤ 7) where
  in_order : (f : List ℕ) (c d : Call) (n m m' n' : ℕ) (g h g' h' : List ℕ) → OfBytes E c → OfBytes E d → key_of c ≢ key_of d
      → Called E f c n g → Called E g d m h → Called E f d m' g' → Called E g' c n' h'
      → NotRefused n → NotRefused m → NotRefused m' → NotRefused n'
      → (n ≡ n') × (m ≡ m') × PackAlike E h h'
  in_order f c d n m m' n' g h g' h' bc bd ne p q p' q' r t t' r' =
      let G = good_called E f c n g p r in
      let s = G.0 in
      let x = did L faults f c n g s bc p G.1 r in
      let xy = did L faults g d m h (on_call E s c).state bd q x.stands t in
      let y = did L faults f d m' g' s bd p' G.1 t' in
      let yx = did L faults g' c n' h' (on_call E s d).state bc q' y.stands r' in
      let k = commute L s c d (stands_good E f s G.1) x.legal xy.legal (differ (key_of c) (key_of d) ne) x.enough xy.enough y.enough yx.enough in (
        x.answer ∙ k.first ∙ sym yx.answer,
        xy.answer ∙ k.second ∙ sym y.answer,
        λ o o' a a' i j u v ru rv.
            (packed_of E h o i o' (on_call E (on_call E s c).state d).state u xy.stands ru).1 ∙ k.image ∙ sym (packed_of E h' a j a' (on_call E (on_call E s d).state c).state v yx.stands rv).1,
      )

  pub demand3 : Demand3 E
  demand3 = record {
    order = in_order;
    images = λ f g o o' p p' n m rs qs len cap h i u v r t.
        let a = packed_to L faults f rs o' h (packed_of E f o n o' h.state u h.stands r).1 in
        let b = packed_to L faults g qs p' i (packed_of E g p m p' i.state v i.stands t).1 in
        (λ e. one_set L faults o' rs qs a.back (rw e b.back), λ e. a.written ∙ rw (len, cap, e) (sym b.written));
  }
