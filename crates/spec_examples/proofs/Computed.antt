-- The examples are computed.
use Rattle.std.specs.Prelude.{refl}
use Rattle.std.specs.Str.Lossy.{utf8_lossy, utf8_valid_len}
use Rattle.url.proofs.OnLiterals.{url_on_literals}
use Rattle.dnr_spec.specs.Suffixes.{registrable, read_label}
use Rattle.spec_examples.specs.Redirects.{GroupsArePutIn, OtherBackslashesAreRefused, FirstMatchGivesWay, KeysAreRemoved, PairsReplaceInTurn, UpgradesKeepThePort}
use Rattle.spec_examples.specs.Parties.{AddressesHaveNoSubdomains, SuffixesAndOneLabelMore, RulesOfALineEach, PartiesByTheirDomains}
use Rattle.spec_examples.specs.Methods.{SocketsHaveNoMethods}
use Rattle.spec_examples.specs.Changes.{ChangesOfADirectionAreBounded}

pub groups_are_put_in : GroupsArePutIn
groups_are_put_in = (refl, refl)

pub other_backslashes_are_refused : OtherBackslashesAreRefused
other_backslashes_are_refused = (refl, refl, refl)

pub first_match_gives_way : FirstMatchGivesWay
first_match_gives_way = refl

pub keys_are_removed : KeysAreRemoved
unfolding url_on_literals utf8_lossy utf8_valid_len
keys_are_removed = (refl, refl)

pub pairs_replace_in_turn : PairsReplaceInTurn
unfolding url_on_literals utf8_lossy utf8_valid_len
pairs_replace_in_turn = (refl, refl)

pub upgrades_keep_the_port : UpgradesKeepThePort
unfolding url_on_literals
upgrades_keep_the_port = (refl, refl, refl, refl)

pub addresses_have_no_subdomains : AddressesHaveNoSubdomains
addresses_have_no_subdomains = (refl, refl, refl, refl, refl, refl, refl)

pub suffixes_and_one_label_more : SuffixesAndOneLabelMore
unfolding registrable
suffixes_and_one_label_more = (refl, refl, refl, refl, refl, refl, refl, refl)

pub rules_of_a_line_each : RulesOfALineEach
unfolding read_label
rules_of_a_line_each = (refl, refl)

pub parties_by_their_domains : PartiesByTheirDomains
unfolding registrable
parties_by_their_domains = (refl, refl, refl, refl, refl, refl)

pub sockets_have_no_methods : SocketsHaveNoMethods
sockets_have_no_methods = (refl, refl, refl, refl, refl)

pub changes_of_a_direction_are_bounded : ChangesOfADirectionAreBounded
changes_of_a_direction_are_bounded = (refl, refl, refl)
