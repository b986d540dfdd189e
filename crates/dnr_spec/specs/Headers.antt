-- Header changes: which are read, which of those offered take effect, and what they make of a list of headers.
-- Chrome's reference has the operations; what it leaves open is this project's profile.
use Rattle.std.specs.Prelude.{ℕ, ◌+◌, List, [], ◌∷◌, ◌++◌, length, codes, bytes_eq, Bool, true, false, not, ◌==◌, ◌&&◌, ◌||◌, nat_lt, nat_le, Option, Some, None, is_some, is_none, option_map, option_to_list, Result, Ok, Err, filter, fold, count_by, if◌then◌else◌}
use Rattle.std.specs.List.{list_any}
use Rattle.std.specs.Ordering.{is_lt, nat_cmp}
use Rattle.std.specs.Cmp.Lexicographic.{slice_cmp}
use Rattle.std.specs.Str.{str_to_ascii_lowercase, str_eq_ignore_ascii_case}
use Rattle.http_header.specs.FieldName.{is_field_name}
use Rattle.dnr_base.specs.declared.operation.Operation.{Operation}
use Rattle.dnr_base.specs.declared.operation.Operation.TheVariants.{Append, Set, Remove}
use Rattle.dnr_base.specs.declared.direction.Direction.{Direction}
use Rattle.dnr_base.specs.declared.direction.Direction.TheVariants as direction
use Rattle.dnr_base.specs.declared.offered.Offered.{Offered}
use Rattle.dnr_base.specs.declared.header.Header.{Header}
use Rattle.dnr_spec.specs.declared.header_refusal.HeaderRefusal.{HeaderRefusal}
use Rattle.dnr_spec.specs.declared.header_refusal.HeaderRefusal.TheVariants.{BadName, BadValue, ValueMissing, ValueGiven, AppendNotAllowed}

-- ---- one change

-- a change of a header, whose name is in lower case
pub record HeaderOp : Type 0 where
  pub name : List ℕ
  pub operation : Operation
  pub value : Option (List ℕ)

abbrev pub max_name : ℕ
max_name = 256

-- a field name (RFC 9110, section 5.1) that is not too long, in any case
unfoldable pub is_name : List ℕ → Bool
is_name name = is_field_name name && nat_le (length name) max_name

-- CR, LF and NUL
abbrev pub ends_value : ℕ → Bool
ends_value b = b == 13 || b == 10 || b == 0

abbrev pub max_value : ℕ
max_value = 8192

abbrev pub is_value : List ℕ → Bool
is_value value = nat_le (length value) max_value && not (list_any ends_value value)

abbrev pub has_bad_value : Option (List ℕ) → Bool
has_bad_value None = false
has_bad_value (Some value) = not (is_value value)

-- the request headers that a value may be appended to
abbrev pub appendable : List (List ℕ)
appendable =
    codes "accept" ∷ codes "accept-encoding" ∷ codes "accept-language" ∷ codes "access-control-request-headers"
    ∷ codes "cache-control" ∷ codes "connection" ∷ codes "content-language" ∷ codes "cookie" ∷ codes "forwarded"
    ∷ codes "if-match" ∷ codes "if-none-match" ∷ codes "keep-alive" ∷ codes "range" ∷ codes "te" ∷ codes "trailer"
    ∷ codes "transfer-encoding" ∷ codes "upgrade" ∷ codes "user-agent" ∷ codes "via" ∷ codes "want-digest"
    ∷ codes "x-forwarded-for" ∷ []

unfoldable pub is_appendable : List ℕ → Bool
is_appendable name = list_any (λ listed. str_eq_ignore_ascii_case name listed) appendable

abbrev pub is_append : Operation → Bool
is_append Append = true
is_append Set = false
is_append Remove = false

-- a response header may have a value appended whatever its name
abbrev pub may_append : Direction → List ℕ → Bool
may_append direction.Request name = is_appendable name
may_append direction.Response name = true

abbrev pub needs_value : Operation → Bool
needs_value Append = true
needs_value Set = true
needs_value Remove = false

-- the change that is read from a rule's words, or the first reason that there is none
abbrev pub header_op_of : Direction → List ℕ → Operation → Option (List ℕ) → Result HeaderOp HeaderRefusal
header_op_of direction name operation value =
    if not (is_name name) then Err BadName
    else (if has_bad_value value then Err BadValue
    else (if needs_value operation && is_none value then Err ValueMissing
    else (if not (needs_value operation) && is_some value then Err ValueGiven
    else (if is_append operation && not (may_append direction name) then Err AppendNotAllowed
    else Ok (record { name = str_to_ascii_lowercase name; operation = operation; value = value })))))

-- ---- which changes take effect

abbrev pub is_same_direction : Direction → Direction → Bool
is_same_direction direction.Request direction.Request = true
is_same_direction direction.Request direction.Response = false
is_same_direction direction.Response direction.Request = false
is_same_direction direction.Response direction.Response = true

-- behind an `append` only an `append` may follow, behind a `set` only one of the same extension, and behind a
-- `remove` nothing
abbrev pub may_follow : Operation → Bool → Operation → Bool
may_follow Append same_extension later = is_append later
may_follow Set same_extension later = is_append later && same_extension
may_follow Remove same_extension later = false

-- both are about one header
abbrev pub is_on_header_of : Offered → Offered → Bool
is_on_header_of offer other = is_same_direction offer.direction other.direction && bytes_eq offer.name other.name

abbrev pub forbids : Offered → Offered → Bool
forbids earlier later = is_on_header_of later earlier && not (may_follow earlier.operation (earlier.age == later.age) later.operation)

-- the most changes of a direction that take effect
abbrev pub max_effective : ℕ
max_effective = 128

-- an offer takes effect behind these that did: not too many of its direction, and none that forbids it
abbrev pub takes_effect : List Offered → Offered → Bool
takes_effect before offer =
    nat_lt (count_by (λ earlier. is_same_direction offer.direction earlier.direction) before) max_effective
    && not (list_any (λ earlier. forbids earlier offer) before)

-- of offers that stand from this place on, the places of those that take effect behind these that did
abbrev pub effective_from : List Offered → ℕ → List Offered → List ℕ
effective_from before place [] = []
effective_from before place (offer ∷ offers) =
    if takes_effect before offer then place ∷ effective_from (before ++ offer ∷ []) (place + 1) offers
    else effective_from before (place + 1) offers

-- the places of the offers that take effect, in their order
abbrev pub effective : List Offered → List ℕ
effective offers = effective_from [] 0 offers

-- ---- the headers after them

abbrev pub without : List ℕ → List Header → List Header
without name headers = filter (λ header. not (bytes_eq header.name name)) headers

-- the header that a change adds
abbrev pub added_by : HeaderOp → List Header
added_by op = option_to_list (option_map (λ value. record { name = op.name; value = value }) op.value)

-- `append` adds a value behind the others, `set` puts one in place of all, `remove` takes all away
abbrev pub changed_by : Operation → List Header → HeaderOp → List Header
changed_by Append headers op = headers ++ added_by op
changed_by Set headers op = without op.name headers ++ added_by op
changed_by Remove headers op = without op.name headers

abbrev pub changed : List Header → HeaderOp → List Header
changed headers op = changed_by op.operation headers op

-- in front of the first whose name is not below its own
abbrev pub placed : Header → List Header → List Header
placed header [] = header ∷ []
placed header (first ∷ rest) = if is_lt (slice_cmp nat_cmp first.name header.name) then first ∷ placed header rest else header ∷ first ∷ rest

-- in ascending byte order of their names, those of one name in their order
abbrev pub in_order : List Header → List Header
in_order [] = []
in_order (header ∷ headers) = placed header (in_order headers)

-- the headers after the changes in turn, in order
abbrev pub headers_after : List Header → List HeaderOp → List Header
headers_after headers ops = in_order (fold changed headers ops)
