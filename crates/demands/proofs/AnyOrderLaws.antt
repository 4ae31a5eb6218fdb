-- Any order: the numbers that were given are those of the states, and packing writes the image of the last one. Assumes nothing.
use Prim.Native.Nat.{ℕ, ◌≤◌}
use mathlib.Core.Path.{◌≡◌, refl, sym, ◌∙◌}
use mathlib.Core.List.{List, [], ◌∷◌}
use Rattle.model.specs.Edition.{Edition, Lawful}
use Rattle.model.specs.State.{State}
use Rattle.model.specs.Frame.{Stands}
use Rattle.model.specs.Call.{Call, on_call}
use Rattle.model.proofs.StandsGood.{stands_good}
use Rattle.sequence.specs.Sequence.{Made, call_numbers, state_after}
use Rattle.sequence.proofs.SequenceLaws.{Passed, alike}
use Rattle.demands.specs.AnyOrder.{AllOfBytes, NoneRefused, AnyOrder}
use Rattle.demands.proofs.DoneLaws.{did, packed_of}

-- what was made, in the model's words
record Went (E : Edition) (s : State) (cs : List Call) (ns g : List ℕ) : Type 0 where
  pub passed : Passed E s cs
  pub told : ns ≡ call_numbers E s cs
  pub stands : Stands E g (state_after E s cs)

module _ {E : Edition} (L : Lawful E) (faults : (k : List ℕ) → E.key_fault k ≤ 7) where
  went : (f : List ℕ) (cs : List Call) (ns g : List ℕ) (s : State) → Stands E f s → AllOfBytes E cs → Made E f cs ns g → NoneRefused ns → Went E s cs ns g
  went f [] [] g s w b m r = record { passed = tt; told = refl; stands = rw (← m) w }
  went f [] (n ∷ ns) g s w b m r = absurd m
  went f (c ∷ cs) [] g s w b m r = absurd m
  went f (c ∷ cs) (n ∷ ns) g s w b m r =
      let x = did L faults f c n m.0 s b.0 m.1 w r.0 in
      let on = went m.0 cs ns g (on_call E s c).state x.stands b.1 m.2 r.1 in
      record { passed = (x.legal, x.enough, on.passed); told = rw (← x.answer, ← on.told); stands = on.stands }

  pub any_order : AnyOrder E
  any_order f cs ds ns ms g h G bc bd same p q rp rq =
      let s = G.0 in
      let x = went f cs ns g s G.1 bc p rp in
      let y = went f ds ms h s G.1 bd q rq in
      let k = alike L s cs ds (stands_good E f s G.1) x.passed y.passed same in (
        λ l. rw (x.told, y.told) (k.told l),
        λ o o' a a' i j u v ru rv.
            (packed_of E g o i o' (state_after E s cs) u x.stands ru).1 ∙ k.image ∙ sym (packed_of E h a j a' (state_after E s ds) v y.stands rv).1,
      )
