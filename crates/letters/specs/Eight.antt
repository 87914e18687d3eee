-- Rule 8 on views.
use Rattle.std.specs.Prelude.{ℕ, Bool, not, ◌&&◌, ◌||◌, cond, eqb}
use Rattle.xliff.specs.Item as spec
use Rattle.xliff.specs.Item.{Content, is_pair, is_end_half, other_half}
use Rattle.xliff.specs.Rules.{nearest, ill_ended, bad_8_source, bad_8_target}
use Rattle.views.specs.Views.{is_code}
use Rattle.views.specs.declared.View.{View}

-- the test of the source sequence, or of the target sequence
abbrev pub bad_8 : Bool → Content → spec.Item → Content → Bool
bad_8 source = cond source bad_8_source bad_8_target

-- an end of a pair whose start it does not match
abbrev pub ill_end : Content → spec.Item → Bool
ill_end before x = is_pair x && is_end_half x && ill_ended x (nearest (other_half x) before)

abbrev pub end_letter_of : ℕ → ℕ
end_letter_of c = cond (eqb c 70) 78 c

-- a start and an end
abbrev pub ill_matched_views : View → View → Bool
ill_matched_views s e =
    not (eqb s.of e.of) || (not (eqb s.copy e.copy) || (not (eqb s.delete e.delete) || (not (eqb s.overlap e.overlap)
    || (eqb s.reorder 70 || e.pform) && not (eqb e.reorder (end_letter_of s.reorder)))))

-- canReorder F
abbrev pub is_leading : View → Bool
is_leading x = is_code x && eqb x.reorder 70

-- "canReorder F or N with canCopy or canDelete Y"
abbrev pub fixed_free : View → Bool
fixed_free x = is_code x && (eqb x.reorder 70 || eqb x.reorder 78) && (eqb x.copy 89 || eqb x.delete 89)

-- N with no F before it
abbrev pub unled_view : Bool → View → Bool
unled_view led x = is_code x && (eqb x.reorder 78 && not led)

-- what is wrong with a code by itself
abbrev pub bad_alone : Bool → Bool → View → Bool
bad_alone source led x = fixed_free x || source && unled_view led x
