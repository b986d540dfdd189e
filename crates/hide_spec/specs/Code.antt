-- How the reasons of lines that hide nothing are written.
use Rattle.std.specs.Prelude.{ℕ, List, codes}
use Rattle.hide_spec.specs.declared.hide_reason.HideReason.{HideReason}
use Rattle.hide_spec.specs.declared.hide_reason.HideReason.TheVariants.{LineTooLong, HideSyntax, NotUtf8, BadDomain, EmptySelector, BothDomains}

abbrev pub hide_code : HideReason → List ℕ
hide_code LineTooLong = codes "line-too-long"
hide_code HideSyntax = codes "hide-syntax"
hide_code NotUtf8 = codes "not-utf8"
hide_code BadDomain = codes "bad-domain"
hide_code EmptySelector = codes "empty-selector"
hide_code BothDomains = codes "both-domains"
