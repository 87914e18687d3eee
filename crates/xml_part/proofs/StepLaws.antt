-- What stands behind blanks and comments, where something is due; and steps that follow each other.
use Prim.Native.Nat.{ℕ, ◌+◌}
use mathlib.Core.Path.{◌≡◌, refl, subst, ◌∙◌}
use mathlib.Core.List.{List, [], ◌∷◌, ◌++◌}
use native.Mathlib.Omega.{arith}
use lib.ListN.{length}
use Rattle.std.specs.Prelude.{Result, Ok, Err}
use Rattle.xliff.specs.Encode.{Record}
use Rattle.xliff.specs.Good.{part_heads}
use Rattle.xliff.proofs.unit.Valid.{heads_append}
use Rattle.xml.specs.Tokens.{Token, finish, cut_tag}
use Rattle.xml.specs.Elements.{Due, outside, blame, closed, finished, cut_short, bad, elements}
use Rattle.table_builder.specs.declared.TableBuilder.{TableBuilder}
use Rattle.xml_piece.specs.Pieces.{rest_at, Ahead}
use Rattle.xml_passages.specs.Passages.{Alike, OuterBlames, Leads}
use Rattle.xml_passages.proofs.OuterLaws.{leads_then, leads_bad, finish_before, cut_before, closed_bad}
use Rattle.xml_records.specs.Collecting.{Collects}
use Rattle.xml_records.proofs.CollectLaws.{collects_none, collects_both_in_loan}
use Rattle.xml_element.specs.declared.Blamed.{Blamed}
use Rattle.xml_element.specs.declared.StartTag.{StartTag}
use Rattle.xml_element.specs.declared.EndTag.{EndTag}
use Rattle.xml_element.specs.Opens.{spelled, start_tokens, end_tokens}
use Rattle.xml_part.specs.Parts.{TagDue, Missing, CollectingAt, Passed, Steps, EndSteps}

alike_leads : (d d' : Due) (a b c : List Token) (rs : List Record) → Alike a b → Leads d b rs d' c → Leads d a rs d' c
unfolding Alike Leads
alike_leads d d' a b c rs k l = k d ∙ l

alike_bad : (d : Due) (a b : List Token) (p : ℕ) → Alike a b → elements (outside d) b ≡ bad p → elements (outside d) a ≡ bad p
unfolding Alike
alike_bad d a b p k e = k d ∙ e

-- what stands behind blanks and comments
module _ (text : List ℕ) (start : ℕ) where
  pub start_bad : (tag : StartTag) (p : ℕ) → Alike (rest_at text start) (start_tokens text tag) → (d : Due)
      → elements (outside d) (start_tokens text tag) ≡ bad p → elements (outside d) (rest_at text start) ≡ bad p
  start_bad tag p k d e = alike_bad d (rest_at text start) (start_tokens text tag) p k e

  module _ (end : EndTag) (k : Alike (rest_at text start) (end_tokens text end)) where
    pub end_leads : (rs : List Record) (d d' : Due) → Leads d (end_tokens text end) rs d' (rest_at text end.next)
        → Leads d (rest_at text start) rs d' (rest_at text end.next)
    end_leads rs d d' l =
        alike_leads d d' (rest_at text start) (end_tokens text end) (rest_at text end.next) rs k l

    pub end_bad : (d : Due) → closed d end.place (spelled text end.name) ≡ blame end.place
        → elements (outside d) (rest_at text start) ≡ bad end.place
    end_bad d e =
        alike_bad d (rest_at text start) (end_tokens text end) end.place k
        (closed_bad end.place (spelled text end.name) (rest_at text end.next) d e)

  -- no tag where one is due
  pub cut_missing : (place : ℕ) → Alike (rest_at text start) (cut_tag place (length text) ∷ [])
      → Missing text (rest_at text start) (length text)
  unfolding Missing
  cut_missing place k d due =
      alike_bad d (rest_at text start) (cut_tag place (length text) ∷ []) (length text) k
      (cut_before place (length text) [] d (due.cut place))

  pub over_missing : (p : ℕ) → Alike (rest_at text start) (finish p ∷ []) → Missing text (rest_at text start) p
  unfolding Missing
  over_missing p k d due = alike_bad d (rest_at text start) (finish p ∷ []) p k (finish_before p [] d (due.over p))

  pub fault_missing : (p : ℕ) → OuterBlames (rest_at text start) p → Missing text (rest_at text start) p
  unfolding Missing OuterBlames
  fault_missing p k d due = k d

-- from blanks and comments on to a step behind them
pub steps_from : (text : List ℕ) (start upto heads : ℕ) (d d' : Due) (a b : List Token) (builder builder' : TableBuilder)
    → Ahead text start upto → Alike a b → (m : Result ℕ Blamed) → Steps text upto d b heads d' builder builder' m
    → Steps text start d a heads d' builder builder' m
steps_from text start upto heads d d' a b builder builder' h k (Ok next) (goes, p) = (
  record { ahead = omega (arith, h.ahead, goes.ahead); inside = goes.inside },
  record {
    records = p.records;
    heads_are = p.heads_are;
    leads = alike_leads d d' a b (rest_at text next) p.records k p.leads;
    collects = p.collects;
  },
)
steps_from text start upto heads d d' a b builder builder' h k (Err q) e = alike_bad d a b q.place k e

-- a step behind another
module _ (text : List ℕ) (from next heads : ℕ) (d d' : Due) (a : List Token) {b₀ b₁ : TableBuilder} (goes : Ahead text from next)
    (p : Passed d a heads b₀ d' (rest_at text next) b₁) where
  pub steps_then : (more : ℕ) (d'' : Due) (b₂ : TableBuilder) (m : Result ℕ Blamed)
      → Steps text next d' (rest_at text next) more d'' b₁ b₂ m → Steps text from d a (heads + more) d'' b₀ b₂ m
  steps_then more d'' b₂ (Ok next₂) (goes₂, p₂) = (
    record { ahead = omega (arith, goes.ahead, goes₂.ahead); inside = goes₂.inside },
    record {
      records = p.records ++ p₂.records;
      heads_are = omega (arith, heads_append p.records p₂.records, p.heads_are, p₂.heads_are);
      leads = leads_then d d' d'' a (rest_at text next) (rest_at text next₂) p.records p₂.records p.leads p₂.leads;
      collects = collects_both_in_loan p.collects p₂.collects;
    },
  )
  steps_then more d'' b₂ (Err q) e = leads_bad d d' a (rest_at text next) p.records q.place p.leads e

  -- an end tag behind a step
  pub ends_then : (d'' : Due) (m : Result ℕ Blamed) → EndSteps text next d' d'' m
      → Steps text from d a (heads + 0) d'' b₀ b₁ m
  ends_then d'' (Ok next₂) (goes₂, l) =
      steps_then 0 d'' b₁ (Ok next₂)
      (goes₂, record { records = []; heads_are = unfold part_heads in refl; leads = l; collects = collects_none })
  ends_then d'' (Err q) e = steps_then 0 d'' b₁ (Err q) e

-- records collected, of which so many are heads of parts
pub more_collected : {parts heads total : ℕ} {builder builder' : TableBuilder} (rs : List Record) → CollectingAt parts builder
    → Collects rs builder builder' → part_heads rs ≡ heads → parts + heads ≡ total → CollectingAt total builder'
more_collected rs k h e sum =
    record {
      before = k.before ++ rs;
      counted = omega (arith, heads_append k.before rs, k.counted, e);
      collected = h.on k.before k.collected;
    }
