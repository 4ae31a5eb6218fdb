-- The changes of a batch one after another: the start, one change more, the end, and the first that is refused. Assumes nothing.
use Prim.Native.Nat.{ℕ, suc, ◌+◌, ◌-◌, ◌<◌, ◌≤◌}
use mathlib.Core.Path.{◌≡◌, refl, sym, ap, ◌∙◌}
use mathlib.Core.List.{List, [], ◌∷◌, ◌++◌, append_assoc, append-nil}
use mathlib.Core.Bool.{true, false}
use mathlib.Core.Option.{Option, none, some}
use native.Mathlib.Omega.{arith}
use lib.ListN.{length, set, length-append}
use lib.Dec.{lit<}
use Rattle.std.specs.Prelude.{Result, Ok, Err}
use Rattle.answers.specs.declared.Refusal.{Refusal}
use Rattle.answers.specs.declared.Refusal.TheVariants as why
use Rattle.answers.specs.declared.Written.TheVariants as written
use Rattle.answers.specs.declared.Erased.TheVariants as erased
use Rattle.answers.specs.Number.{refusal_number, number_of}
use Rattle.answers.proofs.NumberLaws.{in_byte}
use Rattle.model.specs.Edition.{Edition}
use Rattle.model.specs.Order.{is_refusal}
use Rattle.model.specs.State.{State}
use Rattle.model.specs.Frame.{Stands}
use Rattle.model.specs.Promise.{changes}
use Rattle.model.specs.Call.{Call, put, replace, erase, on_call, Called}
use Rattle.model.proofs.StringLaws.{bool_cases, eqb_cases, leb_cases, clash}
use Rattle.model.proofs.WorkedLaws.{called_stands}
use Rattle.descent.specs.Spot.{Standing}
use Rattle.sequence.specs.Sequence.{Made, call_numbers}
use Rattle.batch.specs.Layout.{count_in, count_size, offset_at, offset_of, end_of, call_at, sound, also, changes_from, changes_of, laid}
use Rattle.batch.specs.Batch.{Unrefused, told}
use Rattle.batch.specs.Stopped.{made_number}
use Rattle.batch.specs.declared.change.Made.{Made as What}
use Rattle.batch.specs.declared.change.Made.TheVariants as made
use Rattle.batch.specs.Run.{At, Ready, Far, ToldAt, All, CarriedOut, Through, Halted}
use Rattle.batch.proofs.LayoutLaws.{sound_has, countless, offsetless, headed_is}

-- ---- the batch as a list of changes

laid_some : (x : Option (List Call)) → laid x ≡ true → (cs : List Call) × (x ≡ some cs)
laid_some none e = clash (cc)
laid_some (some cs) e = (cs, refl)

some_same : {xs ys : List Call} → some xs ≡ some ys → xs ≡ ys
some_same {xs} {ys} e = ap (λ (o : Option (List Call)). or_none o) e
  where
    or_none : Option (List Call) → List Call
    or_none none = []
    or_none (some cs) = cs

-- a batch has its header
pub record Headed (E : Edition) (b : List ℕ) : Type 0 where
  pub count : count_size ≤ length b
  pub offsets : offset_at (count_in b) ≤ length b
  pub calls : List Call
  pub is : changes_of E b ≡ some calls
  pub from : changes_from E b (count_in b) 0 (offset_at (count_in b)) ≡ some calls

-- what is left begins with the change at its offset
record Next (E : Edition) (b : List ℕ) (n i low : ℕ) (rest : List Call) : Type 0 where
  calls : List Call
  is : rest ≡ call_at E b (offset_of b i) ∷ calls
  fits : sound E b low (offset_of b i) ≡ true
  left : changes_from E b n (i + 1) (end_of E b (offset_of b i)) ≡ some calls

pub headed_of : (E : Edition) (b : List ℕ) → laid (changes_of E b) ≡ true → Headed E b
headed_of E b e = leb_cases count_size (length b)
    (λ t h. leb_cases (offset_at (count_in b)) (length b)
    (λ u g. let q = headed_is E b h g in
    let L = laid_some (changes_from E b (count_in b) 0 (offset_at (count_in b))) (sym (ap laid q) ∙ e) in
    record { count = h; offsets = g; calls = L.0; is = q ∙ L.1; from = L.1 })
    (λ u g. let z : false ≡ true = offsetless E b h (omega arith) ∙ e in clash (cc)))
    (λ t h. let z : false ≡ true = countless E b (omega arith) ∙ e in clash (cc))

next : (E : Edition) (b : List ℕ) (n i low : ℕ) (rest : List Call) → changes_from E b (suc n) i low ≡ some rest → Next E b n i low rest
next E b n i low rest e = bool_cases (sound E b low (offset_of b i))
    (λ t. go t (changes_from E b n (i + 1) (end_of E b (offset_of b i))) refl (rw t at e))
    (λ t. let z : none ≡ some rest = rw t at e in clash (cc))
  where
    go : sound E b low (offset_of b i) ≡ true → (x : Option (List Call)) → changes_from E b n (i + 1) (end_of E b (offset_of b i)) ≡ x → also (call_at E b (offset_of b i)) x ≡ some rest → Next E b n i low rest
    go t none q z = clash (cc)
    go t (some cs) q z = record { calls = cs; is = some_same (sym z); fits = t; left = q }

-- ---- numbers and calls

made_more : (E : Edition) (f : List ℕ) (cs : List Call) (ns g : List ℕ) (c : Call) (n : ℕ) (g' : List ℕ) → Made E f cs ns g → Called E g c n g' → Made E f (cs ++ c ∷ []) (ns ++ n ∷ []) g'
made_more E f [] [] g c n g' e C = (g', rw e C, refl)
made_more E f [] (m ∷ ns) g c n g' M C = absurd M
made_more E f (d ∷ cs) [] g c n g' M C = absurd M
made_more E f (d ∷ cs) (m ∷ ns) g c n g' M C = (M.0, M.1, made_more E M.0 cs ns g c n g' M.2 C)

made_long : (E : Edition) (f : List ℕ) (cs : List Call) (ns g : List ℕ) → Made E f cs ns g → length ns ≡ length cs
made_long E f [] [] g M = refl
made_long E f [] (m ∷ ns) g M = absurd M
made_long E f (d ∷ cs) [] g M = absurd M
made_long E f (d ∷ cs) (m ∷ ns) g M = ap suc (made_long E M.0 cs ns g M.2)

-- the numbers are the state's
pub made_told : (E : Edition) (f : List ℕ) (cs : List Call) (ns g : List ℕ) (s : State) → Stands E f s → Made E f cs ns g → ns ≡ call_numbers E s cs
made_told E f [] [] g s w M = refl
made_told E f [] (m ∷ ns) g s w M = absurd M
made_told E f (d ∷ cs) [] g s w M = absurd M
made_told E f (d ∷ cs) (m ∷ ns) g s w M =
    let p = called_stands E f d m M.0 s w M.1 in
    ap (λ (x : ℕ). x ∷ ns) p.0 ∙ ap (λ (x : List ℕ). (on_call E s d).answer ∷ x) (made_told E M.0 cs ns g (on_call E s d).state p.1 M.2)

unrefused_more : (ns : List ℕ) (n : ℕ) → Unrefused ns → is_refusal n ≡ false → Unrefused (ns ++ n ∷ [])
unrefused_more [] n U e = (e, tt)
unrefused_more (m ∷ ns) n U e = (U.0, unrefused_more ns n U.1 e)

-- a refused change leaves the frame as it is
still : (n : ℕ) → is_refusal n ≡ true → changes n ≡ false
still n e = eqb_cases n 0
    (λ t q. let z : false ≡ true = rw q at e in clash (cc))
    (λ t m. eqb_cases n 9 (λ u q. let z : false ≡ true = rw q at e in clash (cc)) (λ u k. rw (t, u) refl))

kept_by : (E : Edition) (f : List ℕ) (c : Call) (n : ℕ) (f' : List ℕ) → Called E f c n f' → is_refusal n ≡ true → f' ≡ f
kept_by E f (put k v) n f' C e = C.kept (still n e)
kept_by E f (replace k v) n f' C e = C.kept (still n e)
kept_by E f (erase k) n f' C e = C.kept (still n e)

-- ---- which numbers stop a batch

pub refusal_stops : (r : Refusal) → is_refusal (refusal_number r) ≡ true
refusal_stops why.Length = refl
refusal_stops why.Frame = refl
refusal_stops why.KeyLength = refl
refusal_stops why.KeyZero = refl
refusal_stops why.ValueLength = refl
refusal_stops why.Output = refl
refusal_stops why.Room = refl
refusal_stops why.Buffer = refl
refusal_stops why.Batch = refl

pub made_passes : (r : Result What Refusal) (m : What) → r ≡ Ok m → is_refusal (number_of made_number r) ≡ false
made_passes r m e = rw e (passes m)
  where
    passes : (m : What) → is_refusal (made_number m) ≡ false
    passes (made.Written written.New) = refl
    passes (made.Written written.Replaced) = refl
    passes (made.Written written.Present) = refl
    passes (made.Written written.Absent) = refl
    passes (made.Erased erased.Done) = refl
    passes (made.Erased erased.Absent) = refl

pub number_small : (r : Result What Refusal) → number_of made_number r < 256
number_small (Ok (made.Written written.New)) = lit< tt
number_small (Ok (made.Written written.Replaced)) = lit< tt
number_small (Ok (made.Written written.Present)) = lit< tt
number_small (Ok (made.Written written.Absent)) = lit< tt
number_small (Ok (made.Erased erased.Done)) = lit< tt
number_small (Ok (made.Erased erased.Absent)) = lit< tt
number_small (Err r) = in_byte r

-- ---- the answers told

pub told_in : (ns lent : List ℕ) (n : ℕ) → length ns < length lent → set (told ns lent) (length ns) n ≡ told (ns ++ n ∷ []) lent
told_in [] [] n h = absurd (omega arith)
told_in [] (x ∷ lent) n h = refl
told_in (m ∷ ns) [] n h = absurd (omega arith)
told_in (m ∷ ns) (x ∷ lent) n h = ap (λ (l : List ℕ). m ∷ l) (told_in ns lent n (omega arith))

pub told_out : (ns lent : List ℕ) (n : ℕ) → length lent ≤ length ns → told ns lent ≡ told (ns ++ n ∷ []) lent
told_out [] [] n h = refl
told_out [] (x ∷ lent) n h = absurd (omega arith)
told_out (m ∷ ns) [] n h = refl
told_out (m ∷ ns) (x ∷ lent) n h = ap (λ (l : List ℕ). m ∷ l) (told_out ns lent n (omega arith))

pub told_length : (ns lent : List ℕ) → length (told ns lent) ≡ length lent
told_length [] lent = refl
told_length (m ∷ ns) [] = refl
told_length (m ∷ ns) (x ∷ lent) = ap suc (told_length ns lent)

one_told : (ns lent l l' : List ℕ) (n i : ℕ) → l ≡ told ns lent → length ns ≡ i → ToldAt l i n l' → l' ≡ told (ns ++ n ∷ []) lent
one_told ns lent l l' n i e d T =
    let k = told_length ns lent in
    let q : length l ≡ length lent = ap length e ∙ k in
    leb_cases (suc i) (length lent)
    (λ t h. T.within (omega arith) ∙ rw (e, ← d) (told_in ns lent n (omega arith)))
    (λ t h. T.past (omega arith) ∙ e ∙ told_out ns lent n (omega arith))

-- ---- the start, and one change more

module _ {E : Edition} (f b : List ℕ) (R : Ready E f b) where
  start : Far E f b 0 f
  start =
      let H = headed_of E b R.whole in
      let z : count_in b - 0 ≡ count_in b = omega arith in
      record { before = []; rest = H.calls; low = offset_at (count_in b); split = H.is; left = rw z H.from; long = refl; few = omega arith; numbers = []; made = refl; good = R.good }

  pub trial_start : (F : Far E f b 0 f) × Unrefused F.numbers
  unfolding start
  trial_start = (start, tt)

  pub carry_start : (lent : List ℕ) → (F : Far E f b 0 f) × (lent ≡ told F.numbers lent)
  unfolding start
  carry_start lent = (start, refl)

module _ {E : Edition} {f b : List ℕ} {i : ℕ} {f' : List ℕ} (F : Far E f b i f') where
  coming : i < count_in b → Next E b (count_in b - (i + 1)) i F.low F.rest
  coming h =
      let z : count_in b - i ≡ suc (count_in b - (i + 1)) = omega arith in
      next E b (count_in b - (i + 1)) i F.low F.rest (rw z at F.left)

  pub far_at : i < count_in b → (o : ℕ) → o ≡ offset_of b i → o < 4294967296 → Standing E f' × At E b o
  far_at h o e n =
      let S = sound_has E b F.low (offset_of b i) (coming h).fits in
      (F.good, rw e record { near = rw e at n; head = S.head; ends = S.ends })

  pub far_long : length F.numbers ≡ i
  far_long = made_long E f F.before F.numbers f' F.made ∙ F.long

  pub far_more : i < count_in b → (o : ℕ) → o ≡ offset_of b i → (m : ℕ) (f'' : List ℕ) → Called E f' (call_at E b o) m f'' → (G : Far E f b (i + 1) f'') × (G.numbers ≡ F.numbers ++ m ∷ [])
  far_more h o e m f'' C0 =
      let N = coming h in
      let c = call_at E b (offset_of b i) in
      let C : Called E f' c m f'' = rw e at C0 in
      let w = called_stands E f' c m f'' F.good.st F.good.stands C in (
        record {
          before = F.before ++ c ∷ [];
          rest = N.calls;
          low = end_of E b (offset_of b i);
          split = F.split ∙ ap some (ap (λ (x : List Call). F.before ++ x) N.is ∙ sym (append_assoc F.before (c ∷ []) N.calls));
          left = N.left;
          long = omega (arith, length-append F.before (c ∷ []), F.long);
          few = omega arith;
          numbers = F.numbers ++ m ∷ [];
          made = made_more E f F.before F.numbers f' c m f'' F.made C;
          good = record { lawful = F.good.lawful; st = (on_call E F.good.st c).state; stands = w.1 };
        },
        refl,
      )

  pub trial_more : Unrefused F.numbers → i < count_in b → (o : ℕ) → o ≡ offset_of b i → (m : ℕ) (f'' : List ℕ) → Called E f' (call_at E b o) m f'' → is_refusal m ≡ false
      → (G : Far E f b (i + 1) f'') × Unrefused G.numbers
  trial_more U h o e m f'' D t = let G = far_more h o e m f'' D in (G.0, rw G.1 (unrefused_more F.numbers m U t))

  pub carry_more : (lent l l' : List ℕ) → l ≡ told F.numbers lent → i < count_in b → (o : ℕ) → o ≡ offset_of b i → (m : ℕ) (f'' : List ℕ) → Called E f' (call_at E b o) m f'' → ToldAt l i m l'
      → (G : Far E f b (i + 1) f'') × (l' ≡ told G.numbers lent)
  carry_more lent l l' e0 h o e m f'' D T = let G = far_more h o e m f'' D in (G.0, rw G.1 (one_told F.numbers lent l l' m i e0 far_long T))

  -- ---- the end

  pub far_end : i ≡ count_in b → All E f b F.numbers f'
  far_end e =
      let z : count_in b - i ≡ 0 = omega arith in
      let l : some [] ≡ some F.rest = rw z at F.left in
      let r : F.rest ≡ [] = sym (some_same l) in
      record { calls = F.before; whole = F.split ∙ ap some (ap (λ (x : List Call). F.before ++ x) r ∙ append-nil F.before); made = F.made }

  pub carry_end : (lent l : List ℕ) → i ≡ count_in b → l ≡ told F.numbers lent → CarriedOut E f b lent f' l
  carry_end lent l e q = record { numbers = F.numbers; all = far_end e; tells = q }

  pub tried_through : Unrefused F.numbers → i ≡ count_in b → Through E f b f'
  tried_through U e = record { numbers = F.numbers; all = far_end e; unrefused = U }

  -- ---- the first that is refused

  pub tried_halted : Unrefused F.numbers → i < count_in b → i < 4294967295 → (o : ℕ) → o ≡ offset_of b i → (r : Refusal) (f'' : List ℕ) → Called E f' (call_at E b o) (refusal_number r) f''
      → Halted E f b (refusal_number r) (i + 1) f''
  tried_halted U h few o e r f'' D =
      let N = coming h in
      let m = refusal_number r in
      let c = call_at E b (offset_of b i) in
      let C : Called E f' c m f'' = rw e at D in
      let k = kept_by E f' c m f'' C (refusal_stops r) in
      record {
        refused = refusal_stops r;
        small = in_byte r;
        few = omega arith;
        stopped = λ cs lent q. record {
          before = F.before;
          change = c;
          rest = N.calls;
          split = some_same (sym q ∙ F.split) ∙ ap (λ (x : List Call). F.before ++ x) N.is;
          place = omega (arith, F.long);
          answers = F.numbers;
          made = rw k F.made;
          unrefused = U;
          refused = rw k (rw k at C);
          first = refl;
          tells = refl;
        };
      }
