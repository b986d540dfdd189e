-- Redirects, by whether they need the places of a match.
use Rattle.std.specs.Prelude.{⊤}
use Rattle.dnr_base.specs.declared.redirect.Redirect.{Redirect}
use Rattle.dnr_base.specs.declared.redirect.Redirect.TheVariants as redirect

abbrev pub IsPlain : Redirect → Type 0
IsPlain (redirect.ExtensionPath path) = ⊤
IsPlain (redirect.Transform transform) = ⊤
IsPlain (redirect.Url url) = ⊤
IsPlain (redirect.RegexSubstitution text) = ⊥
