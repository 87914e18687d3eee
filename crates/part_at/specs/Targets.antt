-- The bytes of a target.
use Rattle.std.specs.Prelude.{ℕ, ◌≡◌, false, List, [], ◌++◌}
use Rattle.xliff.specs.Unit.{Target, no_target, target}
use Rattle.xliff.specs.Encode.{target_head, record_bytes, content_records, content_bytes}
use Rattle.walk.specs.Kept.{Kept}

-- t is no target, or TG and a content
abbrev pub TargetIs : List ℕ → Target → Type 0
TargetIs t no_target = t ≡ []
TargetIs t (target q xs) = (t ≡ record_bytes (target_head q) ++ content_bytes xs) × Kept false (content_records xs)
