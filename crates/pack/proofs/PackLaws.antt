-- The ends of packing: refused by the check, refused for the output's length, done. Assumes nothing.
use Prim.Native.Nat.{ℕ}
use mathlib.Core.Path.{◌≡◌, refl, ap, ◌∙◌}
use mathlib.Core.List.{List}
use mathlib.Core.Bool.{Bool, true}
use native.Mathlib.Omega.{arith}
use lib.ListN.{length}
use Rattle.layout.specs.Number.{le}
use Rattle.layout.specs.Place.{at_n, at_r, at_root}
use Rattle.model.specs.Edition.{Edition, Legal, Lawful}
use Rattle.answers.specs.declared.Refusal.{Refusal}
use Rattle.answers.specs.Number.{refusal_number}
use Rattle.answers.proofs.NumberLaws.{never_zero}
use Rattle.editions.specs.declared.Edition.{Edition as Named}
use Rattle.editions.specs.declared.Edition.TheVariants as edition
use Rattle.editions.specs.Rules.{rules_of}
use Rattle.editions.proofs.RulesLaws.{lawful}
use Rattle.model.specs.Records.{records_of}
use Rattle.model.specs.State.{State}
use Rattle.model.specs.Image.{image}
use Rattle.model.specs.Frame.{Root, RootAt, Good}
use Rattle.model.specs.Promise.{Told, CheckPromise, PackingPromise, PackPromise}
use Rattle.model.proofs.StringLaws.{clash}
use Rattle.model.proofs.CleanLaws.{root_as}
use Rattle.model.proofs.UniqueLaws.{stands_unique}
use Rattle.model.proofs.StandsGood.{stands_heads}
use Rattle.audit.specs.Audit.{ruled}
use Rattle.audit.proofs.RuleLaws.{of_rule}
use Rattle.pack.specs.Image.{Known, Imaged}

-- G is a rule by which a frame of edition E is good: the same number and the same trees
pub record RuleOf (G E : Edition) : Type 0 where
  pub ruled : Lawful G
  pub lawful : Lawful E
  pub number : G.number ≡ E.number
  pub trees : (f : List ℕ) (r : Root) → RootAt G f r → RootAt E f r

lawful_ruled : (wiped : Bool) {E : Edition} → Lawful E → Lawful (ruled wiped E)
lawful_ruled wiped {E} L =
    record {
      bytes = λ k h. L.bytes k (legal h);
      short = λ k h. L.short k (legal h);
      apart = λ k l t h g e. L.apart k l t (legal h) (legal g) e;
      order = λ w x y b s c t h g e f l. L.order w x y b s c t (legal h) (legal g) e f l;
      fields = record { number = L.fields.number; keys = λ k h. L.fields.keys k (legal h); words = L.fields.words; stamps = L.fields.stamps };
    }
  where
    legal : {k : List ℕ} → Legal (ruled wiped E) k → Legal E k
    legal h = record { passes = h.passes; bytes = h.bytes }

pub rule_either : (e : Named) (wiped : Bool) → RuleOf (ruled wiped (rules_of e)) (rules_of e)
rule_either e wiped = record { ruled = lawful_ruled wiped (lawful e); lawful = lawful e; number = refl; trees = λ f. root_as (of_rule wiped (rules_of e)) f }

-- by the rule in force
pub packed_now : (e : Named) {f o : List ℕ} {m : ℕ} {o' : List ℕ} → PackingPromise (ruled true (rules_of e)) (rules_of e) f o m o' → PackPromise (rules_of e) f o m o'
packed_now edition.First P = P
packed_now edition.Second P = P

-- ---- the check refuses

module _ {G : Edition} where
  pub pack_refused : {E : Edition} (f o : List ℕ) (x : Refusal) (n : ℕ) → n ≡ refusal_number x → CheckPromise G f (refusal_number x) → PackingPromise G E f o n o
  pack_refused f o x n e p =
      let ne = never_zero x in
      rw e (record { told = p.told; output7 = λ g x. absurd (ne (p.good0 g)); packed0 = λ s w e. absurd (ne (p.good0 (s, w))); kept = λ x. refl })

  module _ {f : List ℕ} (promised : CheckPromise G f 0) where
    -- ---- the frame is good

    good : Good G f
    good = promised.told.good (λ x. omega arith) (λ x. omega arith)

    told_good : (k : ℕ) → Told G f k
    told_good k = record { length1 = λ x. absurd (omega (arith, promised.told.length1 x)); bad2 = λ l x. absurd (x good); good = λ a b. good }

    -- the header tells the edition's number, N, R and the root's slot
    pub known : {E : Edition} → RuleOf G E → {capacity records root : ℕ} → capacity ≡ le 4 f at_n → records ≡ le 4 f at_r → root ≡ le 2 f at_root → Known G E f capacity records root
    known rule a b c =
        let w = good.1 in
        let H = stands_heads G f good.0 w in
        record {
          ruled = rule.ruled;
          lawful = rule.lawful;
          state = good.0;
          stands = w;
          root_at = rule.trees f w.root w.root_at;
          number = H.edition ∙ rule.number;
          N = a ∙ H.slots_at;
          R = b ∙ H.records_at;
          slot = c ∙ w.heap.header.root_at ∙ w.root_is;
        }

    pub pack_done : {E : Edition} (o : List ℕ) {o' : List ℕ} → length o ≡ length f → Imaged G E f o' → PackingPromise G E f o 0 o'
    pack_done {E} o l I =
        record {
          told = told_good 0;
          output7 = λ g x. absurd (x l);
          packed0 = λ s w x. (refl, I.is ∙ ap (λ (t : State). image E t.F t.N (records_of t.tree)) (stands_unique G f I.state s I.stands w));
          kept = λ x. clash (cc);
        }
