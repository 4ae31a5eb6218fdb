-- The ends of a batch: refused as a whole, stopped at a change, carried out. Assumes nothing.
use Prim.Native.Nat.{ℕ, ◌<◌, ◌≤◌}
use mathlib.Core.Path.{◌≡◌, refl, sym, ap, ◌∙◌}
use mathlib.Core.Logic.{◌≢◌}
use mathlib.Core.List.{List}
use mathlib.Core.Bool.{true, false}
use mathlib.Core.Option.{Option, none, some}
use native.Mathlib.Omega.{arith}
use lib.ListN.{length}
use lib.Seq.{ext_get_or}
use lib.Dec.{lit<}
use Rattle.model.specs.Edition.{Edition}
use Rattle.model.specs.Frame.{Good}
use Rattle.model.specs.Promise.{CheckPromise}
use Rattle.model.specs.Call.{Call}
use Rattle.model.proofs.StringLaws.{clash}
use Rattle.moves.specs.Pasted.{Pasted}
use Rattle.descent.specs.Spot.{Standing}
use Rattle.std.specs.Prelude.{Result, Ok, Err}
use Rattle.std.specs.Result.{IsErrAnd}
use Rattle.answers.specs.declared.Refusal.{Refusal as Why}
use Rattle.answers.specs.Number.{refusal_number}
use Rattle.answers.proofs.NumberLaws.{never_zero, in_byte}
use Rattle.store.proofs.LookLaws.{told_good}
use Rattle.batch.specs.Layout.{changes_of, laid}
use Rattle.batch.specs.Batch.{Unrefused, told, Refused, BatchPromise}
use Rattle.batch.specs.Run.{Ready, All, Through, Halted}
use Rattle.batch.specs.Stopped.{Refuses, batch_number, batch_place}
use Rattle.batch.specs.declared.run.Stopped.{Stopped as Halt}
use Rattle.batch.proofs.RunLaws.{made_told}

-- a slice pasted over all of another of its length
pub pasted_all : (f g p : List ℕ) → Pasted f g 0 (length p) p → length f ≡ length p → g ≡ p
pasted_all f g p P e =
    let n : length g ≡ length p = P.only.size ∙ e in
    ext_get_or 0 g p n (λ i l. P.text i i (omega arith) (omega arith))

pub ready : {E : Edition} {f b : List ℕ} → Standing E f → laid (changes_of E b) ≡ true → Ready E f b
ready S e = record { good = S; whole = e }

-- the second frame, pasted over with the first
pub ready_second : {E : Edition} {f b : List ℕ} (g : List ℕ) → g ≡ f → Standing E f → laid (changes_of E b) ≡ true → Ready E g b
ready_second g e S w = rw e (ready S w)

pub through_as : {E : Edition} {x f b g' : List ℕ} → x ≡ f → Through E x b g' → Through E f b g'
through_as e T = rw e at T

pub halted_as : {E : Edition} {x f b : List ℕ} {n at : ℕ} {g' : List ℕ} → x ≡ f → Halted E x b n at g' → Halted E f b n at g'
halted_as e T = rw e at T

-- ---- what stops it, as `?` hands it on

pub whole_refused : (x : Why) (r : Result Unit Halt) → IsErrAnd r (Refuses x) → (batch_number r ≡ refusal_number x) × (batch_place r ≡ 0)
whole_refused x (Ok u) h = absurd h
whole_refused x (Err s) h = (ap refusal_number h.0, h.1)

pub change_refused : (x : Halt) (r : Result Unit Halt) → IsErrAnd r (λ y. y ≡ x) → (batch_number r ≡ refusal_number x.refusal) × (batch_place r ≡ x.place)
change_refused x (Ok u) h = absurd h
change_refused x (Err s) h = (ap (λ (z : Halt). refusal_number z.refusal) h, ap (λ (z : Halt). z.place) h)

unchanged : (f g lent : List ℕ) → Refused f g lent 0 f g lent
unchanged f g lent = record { place = refl; first = refl; second = refl; tells = refl }

module _ (E : Edition) (f g b lent : List ℕ) where
  -- 1 or 2
  pub bad_frame : (r : Why) → CheckPromise E f (refusal_number r) → BatchPromise E f g b lent (refusal_number r) 0 f g lent × (refusal_number r < 256) × (0 ≤ 4294967295)
  bad_frame r p = let ne = never_zero r in (
    record {
      told = p.told;
      length7 = λ G. absurd (ne (p.good0 G));
      layout12 = λ G. absurd (ne (p.good0 G));
      done = λ G. absurd (ne (p.good0 G));
      stopped = λ G. absurd (ne (p.good0 G));
      bad = λ z. unchanged f g lent;
      other = λ z. unchanged f g lent;
      unlaid = λ z. unchanged f g lent;
    },
    in_byte r,
    omega arith,
  )

  module _ (S : Standing E f) where
    good : Good E f
    good = (S.st, S.stands)

    -- 7
    pub other_length : length g ≢ length f → BatchPromise E f g b lent 7 0 f g lent × (7 < 256) × (0 ≤ 4294967295)
    other_length ne = (
      record {
        told = told_good E f 7 good;
        length7 = λ G z. refl;
        layout12 = λ G z. absurd (ne z);
        done = λ G z. absurd (ne z);
        stopped = λ G z. absurd (ne z);
        bad = λ z. absurd (z good);
        other = λ z. unchanged f g lent;
        unlaid = λ z. unchanged f g lent;
      },
      lit< tt,
      omega arith,
    )

    none_laid : (x : Option (List Call)) → laid x ≡ false → x ≡ none
    none_laid none e = refl
    none_laid (some cs) e = clash (cc)

    not_both : {A : Type 0} {cs : List Call} (x : Option (List Call)) → x ≡ none → x ≡ some cs → A
    not_both x p q = clash (cc)

    module _ (equal : length g ≡ length f) where
      -- 12
      pub no_batch : laid (changes_of E b) ≡ false → BatchPromise E f g b lent 12 0 f g lent × (12 < 256) × (0 ≤ 4294967295)
      no_batch e = let z = none_laid (changes_of E b) e in (
        record {
          told = told_good E f 12 good;
          length7 = λ G n. absurd (n equal);
          layout12 = λ G n q. refl;
          done = λ G n cs q t. not_both (changes_of E b) z q;
          stopped = λ G n cs q t. not_both (changes_of E b) z q;
          bad = λ y. absurd (y good);
          other = λ n. absurd (n equal);
          unlaid = λ q. unchanged f g lent;
        },
        lit< tt,
        omega arith,
      )

      module _ (whole : laid (changes_of E b) ≡ true) where
        none_not : {A : Type 0} → changes_of E b ≡ none → A
        none_not q = let z : false ≡ true = rw q at whole in clash (cc)

        -- a change was refused
        pub halted_at : (n at : ℕ) (g' : List ℕ) → Halted E f b n at g' → BatchPromise E f g b lent n at f g' lent × (n < 256) × (at ≤ 4294967295)
        halted_at n at g' H = (
          record {
            told = told_good E f n good;
            length7 = λ G z. absurd (z equal);
            layout12 = λ G z q. none_not q;
            done = λ G z cs q t. let v : true ≡ false = sym H.refused ∙ t in clash (cc);
            stopped = λ G z cs q t. H.stopped cs lent q;
            bad = λ y. absurd (y good);
            other = λ z. absurd (z equal);
            unlaid = λ q. none_not q;
          },
          H.small,
          H.few,
        )

        same_calls : {xs ys : List Call} (x : Option (List Call)) → x ≡ some xs → x ≡ some ys → xs ≡ ys
        same_calls {xs} {ys} x p q = ap (λ (o : Option (List Call)). or_none o) (sym p ∙ q)
          where
            or_none : Option (List Call) → List Call
            or_none none = mathlib.Core.List.[]
            or_none (some cs) = cs

        -- none was
        pub carried : (g1 : List ℕ) → Through E f b g1 → (ns f' : List ℕ) → All E f b ns f' → (lent' g' : List ℕ) → lent' ≡ told ns lent → g' ≡ f'
            → BatchPromise E f g b lent 0 0 f' g' lent' × (0 < 256) × (0 ≤ 4294967295)
        carried g1 T ns f' A lent' g' l d =
            let M = T.all in
            let c : M.calls ≡ A.calls = same_calls (changes_of E b) M.whole A.whole in
            let x = made_told E f M.calls T.numbers g1 S.st S.stands M.made in
            let y = made_told E f A.calls ns f' S.st S.stands A.made in
            let q : T.numbers ≡ ns = x ∙ rw c (sym y) in
            let u : Unrefused ns = rw q at T.unrefused in (
              record {
                told = told_good E f 0 good;
                length7 = λ G n. absurd (n equal);
                layout12 = λ G n z. none_not z;
                done = λ G n cs z t.
                    let k : A.calls ≡ cs = same_calls (changes_of E b) A.whole z in
                    record { number = refl; place = refl; answers = ns; made = rw k at A.made; unrefused = u; second = d; tells = l };
                stopped = λ G n cs z t. clash (cc);
                bad = λ z. absurd (z good);
                other = λ n. absurd (n equal);
                unlaid = λ z. none_not z;
              },
              lit< tt,
              omega arith,
            )
