-- The number of a line stands still where scripts end.
use Rattle.std.proofs.Common.{◌≡◌, ℕ, List, min, Ok, if◌then◌else◌, ap, arith}
use Rattle.dnr_spec.specs.Lines.{max_lines, is_blank}
use Rattle.json_spec.specs.Json.{tree_of}
use Rattle.line_spec.specs.Line.{blank, command_of, command_of_tree}

pub number_stands_still : (number : ℕ) (line : List ℕ) → command_of (min number max_lines) line ≡ command_of number line
unfolding command_of
number_stands_still number line =
    ap (λ n. if is_blank line then Ok blank else command_of_tree n (tree_of line)) (omega arith)
