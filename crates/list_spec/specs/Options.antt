-- The options of a filter: Adblock Plus, "How to write filters", "Filter options".
use Rattle.std.specs.Prelude.{ℕ, suc, List, [], ◌∷◌, length, map, filter, fold, position, Bool, true, false, not, ◌==◌, ◌&&◌, ◌||◌, nat_lt, Option, None, Some, is_some, unwrap_or, option_map, if◌then◌else◌}
use Rattle.std.specs.List.{list_all}
use Rattle.std.specs.Char.{to_ascii_lowercase}
use Rattle.dnr_base.specs.declared.kind.Kind.{Kind}
use Rattle.dnr_base.specs.declared.kind.Kind.TheVariants as kind
use Rattle.dnr_base.specs.Kind.{all_kinds, default_kinds, same_kind, has_kind}
use Rattle.dnr_spec.specs.UrlFilter.{is_letter, is_digit}
use Rattle.dnr_spec.specs.Domains.{is_domain}
use Rattle.list_spec.specs.declared.domain_entry.DomainEntry.{DomainEntry}
use Rattle.list_spec.specs.declared.option_name.OptionName.{OptionName}
use Rattle.list_spec.specs.declared.option_name.OptionName.TheVariants.{Script, Image, Stylesheet, Object, XmlHttpRequest, Ping, WebSocket, Font, Media, Subdocument, Other, ThirdParty, Domain, MatchCase, Document}
use Rattle.list_spec.specs.declared.reason.Reason.{Reason}
use Rattle.list_spec.specs.declared.reason.Reason.TheVariants.{UnknownOption, OptionValue, DocumentOnBlock, BadDomain}
use Rattle.list_spec.specs.Pieces.{pieces_of, before_place, behind_place, is_inverse, without_tilde}
use Rattle.list_spec.specs.OptionName.{option_named}
use Rattle.list_spec.specs.Entries.{entries_of, is_domain_list}

-- ---- an option as it is written: `name`, `~name` or `name=value`

-- the name is in lower case
pub record Written : Type 0 where
  pub inverse : Bool
  pub name : List ℕ
  pub value : Option (List ℕ)

-- a value begins behind the first `=`
abbrev pub equals_place : List ℕ → Option ℕ
equals_place text = position (λ b. b == 61) text

-- what stands before the value, behind the `~`
abbrev pub name_of : List ℕ → List ℕ
name_of piece = let text = without_tilde piece in before_place (equals_place text) text

abbrev pub written_of : List ℕ → Written
written_of piece =
    let text = without_tilde piece in
    record { inverse = is_inverse piece; name = map to_ascii_lowercase (name_of piece); value = behind_place (equals_place text) text }

-- a letter, a digit, `_` or `-`
abbrev pub is_name_byte : ℕ → Bool
is_name_byte b = is_letter b || is_digit b || b == 95 || b == 45

abbrev pub is_option : List ℕ → Bool
is_option piece = nat_lt 0 (length (name_of piece)) && list_all is_name_byte (name_of piece)

-- ---- where the options stand

-- options stand between commas
abbrev pub is_option_list : List ℕ → Bool
is_option_list text = list_all is_option (pieces_of 44 text)

-- the leftmost `$` behind which the whole rest is a list of options
abbrev pub options_place : List ℕ → Option ℕ
options_place [] = None
options_place (b ∷ rest) = if b == 36 && is_option_list rest then Some 0 else option_map suc (options_place rest)

abbrev pub options_in : Option (List ℕ) → List Written
options_in None = []
options_in (Some text) = map written_of (pieces_of 44 text)

-- ---- what an option speaks of

-- of types of requests, of the party, of domains, of the case of letters, or of all that a page loads
pub data Subject : Type 0 where
  on_types : List Kind → Subject
  on_party : Subject
  on_domains : Subject
  on_case : Subject
  on_document : Subject

abbrev pub subject_of : OptionName → Subject
subject_of Script = on_types (kind.Script ∷ [])
subject_of Image = on_types (kind.Image ∷ [])
subject_of Stylesheet = on_types (kind.Stylesheet ∷ [])
subject_of Object = on_types (kind.Object ∷ [])
subject_of XmlHttpRequest = on_types (kind.XmlHttpRequest ∷ [])
subject_of Ping = on_types (kind.Ping ∷ [])
subject_of WebSocket = on_types (kind.WebSocket ∷ [])
subject_of Font = on_types (kind.Font ∷ [])
subject_of Media = on_types (kind.Media ∷ [])
subject_of Subdocument = on_types (kind.SubFrame ∷ [])
subject_of Other = on_types (kind.Other ∷ kind.CspReport ∷ kind.WebTransport ∷ kind.WebBundle ∷ [])
subject_of ThirdParty = on_party
subject_of Domain = on_domains
subject_of MatchCase = on_case
subject_of Document = on_document

-- of an option with this name; None where no known option has it
abbrev pub subject_named : List ℕ → Option Subject
subject_named name = option_map subject_of (option_named name)

-- ---- the first option from the left that is at fault

-- a known option but `domain` takes no value
abbrev pub plain_fault : Written → Option Reason → Option Reason
plain_fault written later = if is_some written.value then Some (OptionValue written.name) else later

-- the list of domains: what is no list of domains comes before what is no domain
abbrev pub entries_fault : List ℕ → List DomainEntry → Option Reason
entries_fault name entries =
    if not (is_domain_list entries) then Some (OptionValue name)
    else (if list_all (λ entry. is_domain entry.domain) entries then None else Some BadDomain)

abbrev pub value_fault : List ℕ → Option (List ℕ) → Option Reason
value_fault name None = Some (OptionValue name)
value_fault name (Some value) = entries_fault name (entries_of value)

-- `domain` takes a list, stands once and is not turned into its opposite
abbrev pub domain_fault : Bool → Written → Option Reason
domain_fault repeated written =
    if written.inverse || repeated then Some (OptionValue written.name) else value_fault written.name written.value

-- `document` stands only in exceptions; `~document` may stand in any filter
abbrev pub document_fault : Bool → Written → Option Reason
document_fault exception written = if exception || written.inverse then None else Some DocumentOnBlock

abbrev pub subject_fault : Bool → Bool → Written → Option Subject → Option Reason
subject_fault exception repeated written None = Some (UnknownOption written.name)
subject_fault exception repeated written (Some on_domains) = domain_fault repeated written
subject_fault exception repeated written (Some on_document) = plain_fault written (document_fault exception written)
subject_fault exception repeated written (Some (on_types these)) = plain_fault written None
subject_fault exception repeated written (Some on_party) = plain_fault written None
subject_fault exception repeated written (Some on_case) = plain_fault written None

-- what is wrong with an option; `repeated` where a `domain` stands before it
abbrev pub option_fault : Bool → Bool → Written → Option Reason
option_fault exception repeated written = subject_fault exception repeated written (subject_named written.name)

abbrev pub speaks_of_domains : Option Subject → Bool
speaks_of_domains None = false
speaks_of_domains (Some on_domains) = true
speaks_of_domains (Some on_document) = false
speaks_of_domains (Some (on_types these)) = false
speaks_of_domains (Some on_party) = false
speaks_of_domains (Some on_case) = false

abbrev pub or_else : Option Reason → Option Reason → Option Reason
or_else None later = later
or_else (Some reason) later = Some reason

abbrev pub first_fault : Bool → Bool → List Written → Option Reason
first_fault exception repeated [] = None
first_fault exception repeated (written ∷ options) =
    or_else (option_fault exception repeated written) (first_fault exception (repeated || speaks_of_domains (subject_named written.name)) options)

-- ---- what options without fault ask for

-- `types` are None as long as no option spoke of types
pub record Asked : Type 0 where
  pub match_case : Bool
  pub third_party : Option Bool
  pub domains : List DomainEntry
  pub types : Option (List Kind)
  pub document : Bool

abbrev pub nothing_asked : Asked
nothing_asked = record { match_case = false; third_party = None; domains = []; types = None; document = false }

-- a set of types is their list in the order of the reference
abbrev pub with_type : List Kind → Kind → List Kind
with_type types one = filter (λ other. same_kind one other || has_kind types other) all_kinds

abbrev pub without_type : List Kind → Kind → List Kind
without_type types one = filter (λ other. not (same_kind one other) && has_kind types other) all_kinds

-- an option puts its types to those before, of which there are none at first; an inverse one takes them out of
-- those before, which are all but `main_frame` at first
abbrev pub types_after : Option (List Kind) → Bool → List Kind → List Kind
types_after types false these = fold with_type (unwrap_or types []) these
types_after types true these = fold without_type (unwrap_or types default_kinds) these

abbrev pub with_types : Asked → Bool → List Kind → Asked
with_types asked inverse these = record asked { types = Some (types_after asked.types inverse these) }

-- one option more: of options that speak of one thing the last counts, but types add up
abbrev pub after_subject : Asked → Written → Option Subject → Asked
after_subject asked written None = asked
after_subject asked written (Some (on_types these)) = with_types asked written.inverse these
after_subject asked written (Some on_party) = record asked { third_party = Some (not written.inverse) }
after_subject asked written (Some on_domains) = record asked { domains = entries_of (unwrap_or written.value []) }
after_subject asked written (Some on_case) = record asked { match_case = not written.inverse }
after_subject asked written (Some on_document) = with_types (record asked { document = not written.inverse }) written.inverse []

abbrev pub after_option : Asked → Written → Asked
after_option asked written = after_subject asked written (subject_named written.name)

abbrev pub asked_of : List Written → Asked
asked_of options = fold after_option nothing_asked options
