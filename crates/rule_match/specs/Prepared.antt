-- A part and a request, with the suffix rules by which their parties are told.
use Rattle.std.specs.Prelude.{List, Bool}
use Rattle.dnr_base.specs.declared.request.Request.{Request}
use Rattle.dnr_base.specs.Request.{Part}
use Rattle.dnr_base.specs.View.{host_of}
use Rattle.dnr_spec.specs.Suffixes.{SuffixRule}
use Rattle.dnr_spec.specs.Party.{is_third_party}

pub record PreparedPart : Type 0 where
  pub suffixes : List SuffixRule
  pub part : Part

pub record PreparedRequest : Type 0 where
  pub suffixes : List SuffixRule
  pub request : Request

-- the part is third party
abbrev pub is_third : List SuffixRule → Part → Bool
is_third suffixes part = is_third_party suffixes (host_of part.view) part.initiator
