use Rattle.std.proofs.Common.{map, string_bytes, sym, ap, ◌∙◌, arith}
use Rattle.abp_parse.specs.Seen.{filter_seen}
use Rattle.abp_compile.specs.Alike.{has_key}
use Rattle.abp_compile.specs.Groups.{first_place, firsts}
use Rattle.abp_compile.proofs.Taken.{place_in, found_joined, takes_joined, takes_new}
use Rattle.abp_compile.proofs.groups.Groups.add_plain.Goals as goal

pub join-requires : goal.join-requires
join-requires c =
    let vector = c.args.self.now.list in
    let less = place_in c.args.self.now (has_key (map string_bytes c.in_ok-key.key.items)) c.in-Some.place (sym c.find.ensures ∙ c.in-Some.is) in
    omega (arith, less, vector.ok.0)

pub returns-in_ok-join-in-Some-clause-found : goal.returns-in_ok-join-in-Some-clause-found
returns-in_ok-join-in-Some-clause-found c =
    found_joined c.args.line (string_bytes c.args.domain) c.in-Some.place c.args.self.now c.join.new.self c.requires.found c.in_ok-join-in-Some.ensures.places c.in_ok-join-in-Some.ensures.list

pub returns-in_ok-join-in-Some-clause-takes : goal.returns-in_ok-join-in-Some-clause-takes
returns-in_ok-join-in-Some-clause-takes c =
    takes_joined c.args.line (filter_seen c.args.filter) (string_bytes c.args.domain) c.in-Some.place c.args.self.now c.join.new.self c.requires.domain
    (sym (ap (λ k. first_place (has_key k) (firsts c.args.self.now.list.items)) c.in_ok-key.ensures) ∙ sym c.find.ensures ∙ c.in-Some.is) c.in_ok-join-in-Some.ensures.list

pub returns-in_ok-begin_at-in-None-clause-takes : goal.returns-in_ok-begin_at-in-None-clause-takes
returns-in_ok-begin_at-in-None-clause-takes c =
    takes_new c.args.line (filter_seen c.args.filter) (string_bytes c.args.domain) c.args.self.now c.begin_at.new.self c.requires.domain
    (sym (ap (λ k. first_place (has_key k) (firsts c.args.self.now.list.items)) c.in_ok-key.ensures) ∙ sym c.find.ensures ∙ c.in-None.is) c.in_ok-begin_at-in-None.ensures.list
