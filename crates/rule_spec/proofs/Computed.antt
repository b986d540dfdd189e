-- The examples are computed.
use Rattle.std.specs.Prelude.{refl}
use Rattle.url.proofs.OnLiterals.{url_on_literals}
use Rattle.dnr_spec.specs.HeaderTests.{pieces_of, test_holds}
use Rattle.dnr_spec.specs.MatchPatterns.{match_fits, match_covers}
use Rattle.rule_spec.specs.Scan.{scan}
use Rattle.rule_spec.specs.Examples.{PageIsExempt, FrameWithoutUrlExemptsNothing, BlockPrevailsAcrossExtensions, RedirectWithoutTargetDecidesNothing, AllowOutdoesWeakerHeaderRules, AppendsKeepOutTheOthers, SetKeepsOutOtherExtensions, ValueIsAskedFor, ExcludedValueIsNone, HeadersAreCarried, RedirectNeedsAccess, BlockNeedsNoAccess}

pub page_is_exempt : PageIsExempt
unfolding scan
page_is_exempt = (refl, refl)

pub frame_without_url_exempts_nothing : FrameWithoutUrlExemptsNothing
unfolding scan
frame_without_url_exempts_nothing = (refl, refl)

pub block_prevails_across_extensions : BlockPrevailsAcrossExtensions
unfolding scan url_on_literals
block_prevails_across_extensions = (refl, refl)

pub redirect_without_target_decides_nothing : RedirectWithoutTargetDecidesNothing
unfolding scan url_on_literals
redirect_without_target_decides_nothing = refl

pub allow_outdoes_weaker_header_rules : AllowOutdoesWeakerHeaderRules
unfolding scan
allow_outdoes_weaker_header_rules = refl

pub appends_keep_out_the_others : AppendsKeepOutTheOthers
unfolding scan
appends_keep_out_the_others = refl

pub set_keeps_out_other_extensions : SetKeepsOutOtherExtensions
unfolding scan
set_keeps_out_other_extensions = refl

pub value_is_asked_for : ValueIsAskedFor
unfolding scan test_holds pieces_of
value_is_asked_for = (refl, refl, refl)

pub excluded_value_is_none : ExcludedValueIsNone
unfolding scan test_holds pieces_of
excluded_value_is_none = (refl, refl, refl)

pub headers_are_carried : HeadersAreCarried
unfolding scan test_holds pieces_of
headers_are_carried = (refl, refl, refl)

pub redirect_needs_access : RedirectNeedsAccess
unfolding scan match_fits match_covers url_on_literals
redirect_needs_access = (refl, refl, refl, refl)

pub block_needs_no_access : BlockNeedsNoAccess
unfolding scan
block_needs_no_access = refl
