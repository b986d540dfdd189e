use Rattle.std.proofs.Common.{List, [], ◌∷◌, ◌++◌, map, String, Global, string_bytes, sym, ◌∙◌, ap}
use Rattle.std.specs.Prelude.{option_copied}
use Rattle.abp_parse.specs.Seen.{filter_seen}
use Rattle.abp_compile.specs.Groups.{told}
use Rattle.abp_compile.proofs.Taken.{takes_other, found_other}
use Rattle.abp_compile.proofs.groups.Groups.add.Goals as goal

pub returns-in_ok-begin-in-None-clause-found : goal.returns-in_ok-begin-in-None-clause-found
returns-in_ok-begin-in-None-clause-found c =
    let list = c.in_ok-begin-in-None.ensures.list
    ∙ ap (λ (d : List (String Global)). map told c.args.self.now.list.items ++ record { filter = filter_seen c.args.filter; lines = c.args.line ∷ []; domains = map string_bytes d } ∷ []) c.new.ensures.items in
    found_other c.args.line (filter_seen c.args.filter) c.args.self.now c.begin.new.self (sym c.domain_of.ensures ∙ ap option_copied c.in-None.is) c.requires c.in_ok-begin-in-None.ensures.places list

pub returns-in_ok-begin-in-None-clause-takes : goal.returns-in_ok-begin-in-None-clause-takes
returns-in_ok-begin-in-None-clause-takes c =
    let list = c.in_ok-begin-in-None.ensures.list
    ∙ ap (λ (d : List (String Global)). map told c.args.self.now.list.items ++ record { filter = filter_seen c.args.filter; lines = c.args.line ∷ []; domains = map string_bytes d } ∷ []) c.new.ensures.items in
    takes_other c.args.line (filter_seen c.args.filter) c.args.self.now c.begin.new.self (sym c.domain_of.ensures ∙ ap option_copied c.in-None.is) list
