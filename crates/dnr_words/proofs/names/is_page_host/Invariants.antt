use Rattle.std.proofs.Common.{◌≡◌, drop}
use Rattle.hide_spec.specs.Hidden.{is_page_host}
use Rattle.dnr_words.proofs.HostLabels.{is_rest}
use Rattle.dnr_words.proofs.names.is_page_host.Given as goal

abbrev pub invariant-loop-byte : goal.invariant-loop-byte
invariant-loop-byte l = is_page_host l.word ≡ is_rest l.begun (drop l.byte-index l.word)
