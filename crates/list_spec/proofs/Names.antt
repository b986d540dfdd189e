-- Names of options are compared without regard to case.
use Rattle.std.proofs.Common.{◌≡◌, map, refl}
use Rattle.std.specs.Char.{to_ascii_lowercase}
use Rattle.list_spec.specs.declared.option_name.OptionName.{OptionName}
use Rattle.list_spec.specs.declared.option_name.OptionName.TheVariants.{Script, Image, Stylesheet, Object, XmlHttpRequest, Ping, WebSocket, Font, Media, Subdocument, Other, ThirdParty, Domain, MatchCase, Document}
use Rattle.list_spec.specs.OptionName.{option_text}

pub lower_text : (option : OptionName) → map to_ascii_lowercase (option_text option) ≡ option_text option
lower_text Script = refl
lower_text Image = refl
lower_text Stylesheet = refl
lower_text Object = refl
lower_text XmlHttpRequest = refl
lower_text Ping = refl
lower_text WebSocket = refl
lower_text Font = refl
lower_text Media = refl
lower_text Subdocument = refl
lower_text Other = refl
lower_text ThirdParty = refl
lower_text Domain = refl
lower_text MatchCase = refl
lower_text Document = refl
