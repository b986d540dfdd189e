-- The examples are computed.
use Rattle.std.specs.Prelude.{refl}
use Rattle.index_spec.specs.Examples.{EachNumberIsAKey, NumbersShareTheLastLabel, WordsBesideStarsAreNoTokens, CommonWordsAreNoTokens, HostsAreAskedByTheirRests, AddressesHaveNoRests}

pub each_number_is_a_key : EachNumberIsAKey
each_number_is_a_key = (refl, refl, refl)

pub numbers_share_the_last_label : NumbersShareTheLastLabel
numbers_share_the_last_label = refl

pub words_beside_stars_are_no_tokens : WordsBesideStarsAreNoTokens
words_beside_stars_are_no_tokens = (refl, refl, refl, refl, refl, refl, refl)

pub common_words_are_no_tokens : CommonWordsAreNoTokens
common_words_are_no_tokens = (refl, refl, refl)

pub hosts_are_asked_by_their_rests : HostsAreAskedByTheirRests
hosts_are_asked_by_their_rests = (refl, refl)

pub addresses_have_no_rests : AddressesHaveNoRests
addresses_have_no_rests = (refl, refl)
