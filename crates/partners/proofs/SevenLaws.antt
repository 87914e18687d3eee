-- Rule 7 whole.
use Prim.Native.Nat.{ℕ}
use mathlib.Core.Path.{◌≡◌, sym, ap, ap₂, ◌∙◌}
use mathlib.Core.Bool.{true, false}
use mathlib.Core.List.{List, [], ◌++◌}
use lib.ListN.{length}
use Rattle.xliff.specs.Bytes.{any, gather}
use Rattle.xliff.specs.Item.{Item, Content, other_half}
use Rattle.xliff.specs.Parse.{unit}
use Rattle.xliff.specs.Sequences.{located, blamed, first_of, placed_contents, placed_source_sequence, placed_target_sequence}
use Rattle.xliff.specs.Rules.{lone_P, lone_S, lone_in_target, waiting, fault_7}
use Rattle.answers.specs.Answers.{refusal_at, toward}
use Rattle.std.specs.Prelude.{Option}
use Rattle.answers.proofs.Places.{first_two}
use Rattle.places.specs.Passes.{Passes}
use Rattle.places.specs.Markers.{placed_at, target_offsets}
use Rattle.places.proofs.Tests.{source_blamed, target_blamed, length_located}
use Rattle.sequences.specs.Marks.{offsets}
use Rattle.keys.specs.Keys.{key, keys_at}
use Rattle.contents.specs.Contents.{barred, bar_keys}
use Rattle.partners.specs.Partners.{lone_s_Key, waits_for_key, lone_among_keys, blamed_keys}
use Rattle.partners.proofs.KeyTests.{lone_keys, lone_target_keys, on_marks_source, on_marks_target, blamed_keys_lem}
use Rattle.partners.proofs.WaitingLaws.{waiting_keys}
use Rattle.partners.proofs.BarLaws.{bars_are}

module _ (t : List ℕ) (p : Passes t) where
  -- which halves wait, by the keys of the source contents
  waits_in_source : (x : Item) → any (other_half x) (waiting [] (unit t).parts) ≡ waits_for_key (key x) [] (bar_keys t (barred false t))
  waits_in_source x = waiting_keys x (unit t).parts ∙ ap (waits_for_key (key x) []) (sym (bars_are t false p))

  source_part : (source_markers keys : List ℕ) → source_markers ≡ offsets true 0 t → keys ≡ keys_at t source_markers
      → blamed lone_S [] (placed_source_sequence (located (unit t).parts)) ≡ blamed_keys lone_s_Key [] source_markers keys
  unfolding offsets
  source_part source_markers keys e f =
      source_blamed t p lone_S lone_S on_marks_source
      ∙ ap (λ (markers : List ℕ). blamed lone_S [] (placed_at t markers)) (sym e)
      ∙ blamed_keys_lem lone_S lone_s_Key lone_keys t source_markers []
      ∙ ap (blamed_keys lone_s_Key [] source_markers) (sym f)

  target_part : (target_markers keys : List ℕ) → target_markers ≡ target_offsets t 0 (length (unit t).parts) → keys ≡ keys_at t target_markers
      → blamed (lone_in_target (waiting [] (unit t).parts)) [] (placed_target_sequence (located (unit t).parts))
      ≡ blamed_keys (lone_among_keys (bar_keys t (barred false t))) [] target_markers keys
  target_part target_markers keys e f =
      let wait : Content = waiting [] (unit t).parts in
      let bars : List ℕ = bar_keys t (barred false t) in
      target_blamed t p (lone_in_target wait) (lone_in_target wait) (on_marks_target wait)
      ∙ ap (λ (markers : List ℕ). blamed (lone_in_target wait) [] (placed_at t markers)) (ap (target_offsets t 0) (length_located (unit t).parts) ∙ sym e)
      ∙ blamed_keys_lem (lone_in_target wait) (lone_among_keys bars) (lone_target_keys wait bars waits_in_source) t target_markers []
      ∙ ap (blamed_keys (lone_among_keys bars) [] target_markers) (sym f)

  -- the least of the three
  pub rule_7_is : (source_markers source_keys target_markers target_keys : List ℕ) (a b c : Option ℕ) → source_markers ≡ offsets true 0 t → source_keys ≡ keys_at t source_markers
      → target_markers ≡ target_offsets t 0 (length (unit t).parts) → target_keys ≡ keys_at t target_markers
      → refusal_at 7 a ≡ first_of 7 (gather (blamed lone_P []) (placed_contents (located (unit t).parts)))
      → refusal_at 7 b ≡ toward 7 a (blamed_keys lone_s_Key [] source_markers source_keys)
      → refusal_at 7 c ≡ toward 7 b (blamed_keys (lone_among_keys (bar_keys t (barred false t))) [] target_markers target_keys)
      → refusal_at 7 c ≡ fault_7 (unit t).parts
  unfolding fault_7
  rule_7_is source_markers source_keys target_markers target_keys a b c e f g h k l m =
      let X : List ℕ = gather (blamed lone_P []) (placed_contents (located (unit t).parts)) in
      let Y : List ℕ = blamed_keys lone_s_Key [] source_markers source_keys in
      let Z : List ℕ = blamed_keys (lone_among_keys (bar_keys t (barred false t))) [] target_markers target_keys in
      m
      ∙ sym (first_two 7 b (X ++ Y) Z (l ∙ sym (first_two 7 a X Y k)))
      ∙ ap₂ (λ (y z : List ℕ). first_of 7 (X ++ y ++ z)) (sym (source_part source_markers source_keys e f)) (sym (target_part target_markers target_keys g h))
