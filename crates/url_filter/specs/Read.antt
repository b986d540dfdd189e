-- What is kept of a filter beside its text.
use Rattle.std.specs.Prelude.{◌≡◌, ℕ, List, drop, Bool, Option, IfSome}
use Rattle.dnr_spec.specs.UrlFilter.{anchor_of, anchor_len, filter_of, has_end_anchor}
use Rattle.url_filter.specs.Anchor.{meaning}
use Rattle.url_filter.specs.Sought.{IsSought}
use Rattle.url_filter.specs.declared.anchor.Anchor.{Anchor}

pub record IsRead (text : List ℕ) (anchor : Anchor) (ends : Bool) (sought : Option ℕ) : Type 0 where
  pub anchored : meaning anchor ≡ anchor_of text
  pub ended : ends ≡ has_end_anchor (drop (anchor_len (anchor_of text)) text)
  pub guided : IfSome sought (IsSought (filter_of text).body)
