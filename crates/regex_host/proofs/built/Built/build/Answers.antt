use Rattle.regex_host.proofs.Patterns.{pattern_is_some, pattern_refused}
use Rattle.regex_host.proofs.built.Built.build.Goals as goal

pub returns-in-Err-Syntax-clause-no_pattern : goal.returns-in-Err-Syntax-clause-no_pattern
returns-in-Err-Syntax-clause-no_pattern c =
    let e = c.in-Err-Syntax.ensures in
    let kind = rw c.in-Err-Syntax.field-0-is at e.kind in
    let refused = rw (c.case_insensitive.ensures, c.new.ensures.source, c.new.ensures.config) at (e.by_grammar _ c.in-Err-Syntax.field-0-is) in
    λ _. pattern_refused _ _ _ refused kind

pub returns-in-Err-CompiledTooBig-clause-too_big : goal.returns-in-Err-CompiledTooBig-clause-too_big
returns-in-Err-CompiledTooBig-clause-too_big c =
    let e = c.in-Err-CompiledTooBig.ensures in
    let kind = rw c.in-Err-CompiledTooBig.field-0-is at e.kind in
    let read = rw (c.case_insensitive.ensures, c.new.ensures.source, c.new.ensures.config) at kind.2 in
    λ _. pattern_is_some _ _ _ _ read
