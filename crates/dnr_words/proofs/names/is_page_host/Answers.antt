use Rattle.std.proofs.Common.{sym}
use Rattle.dnr_words.proofs.HostLabels.{is_rest-host}
use Rattle.dnr_words.proofs.names.is_page_host.Goals as goal

pub loop-byte-init : goal.loop-byte-init
loop-byte-init c = sym (is_rest-host c.args.word.now)
