use Rattle.std.proofs.Common.{rules, ◌≡◌, sym, get_or, ◌∙◌}
use Rattle.url_view.proofs.Found.{behind}
use Rattle.url_view.proofs.places.behind_query.Goals as goal

pub returns-then-is_fragment : goal.returns-then-is_fragment
returns-then-is_fragment c =
    let slash : get_or c.args.behind_host.now 0 0 ≡ 47 = search rules in
    behind c.args.behind_host.now _ _ _ _ _ _ slash
    c.path_len.ensures.value c.split_at.ensures.front c.split_at.ensures.back
    c.query_len.ensures.value c.split_at-2.ensures.front c.split_at-2.ensures.back (sym c.is_fragment.ensures ∙ c.if-is_fragment.true)
