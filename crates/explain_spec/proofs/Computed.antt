-- The examples are computed.
use Rattle.std.specs.Prelude.{refl}
use Rattle.rule_spec.specs.Scan.{scan}
use Rattle.explain_spec.specs.Explanation.{explanation_of}
use Rattle.explain_spec.specs.Examples.{FrameIsNamed, NewestIsExplainedFirst, LinesAscend}

pub frame_is_named : FrameIsNamed
unfolding scan explanation_of
frame_is_named = refl

pub newest_is_explained_first : NewestIsExplainedFirst
unfolding scan explanation_of
newest_is_explained_first = refl

pub lines_ascend : LinesAscend
unfolding scan explanation_of
lines_ascend = refl
