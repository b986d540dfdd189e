-- How often a `Counter` has counted a text.
use Rattle.std.specs.Prelude.{ℕ, List, unwrap_or}
use Rattle.std.specs.HashMap.{get_by_text}
use Rattle.redirect_transform.specs.declared.counter.Counter.{Counter}

abbrev pub count_of : Counter → List ℕ → ℕ
count_of counter text = unwrap_or (get_by_text counter.counts text) 0
