-- The program's types, as those of the definitions.
use Rattle.std.specs.Prelude.{[], map, unwrap_or, option_map, option_copied}
use Rattle.std.specs.Char.{to_ascii_lowercase}
use Rattle.dnr_base.specs.KindSet.{kinds_of}
use Rattle.list_spec.specs.Options as options
use Rattle.list_spec.specs.LineKind as lines
use Rattle.abp_parse.specs.declared.asked.Asked.{Asked}
use Rattle.abp_parse.specs.declared.asked.Subject.{Subject}
use Rattle.abp_parse.specs.declared.asked.Subject.TheVariants.{Types, Party, Domains, Case, Document}
use Rattle.abp_parse.specs.declared.options.Written.{Written}
use Rattle.abp_parse.specs.declared.line.Line.{Line}
use Rattle.abp_parse.specs.declared.line.Line.TheVariants.{Blank, Comment, Header, Filter, Unsupported}
use Rattle.abp_parse.specs.declared.line.FilterLine.{FilterLine}
use Rattle.abp_parse.specs.declared.line.FilterPattern.{FilterPattern}
use Rattle.abp_parse.specs.declared.line.FilterPattern.TheVariants.{All, Plain, Regex}

abbrev pub subject_seen : Subject → options.Subject
subject_seen (Types these) = options.on_types these.now
subject_seen Party = options.on_party
subject_seen Domains = options.on_domains
subject_seen Case = options.on_case
subject_seen Document = options.on_document

abbrev pub written_seen : Written → options.Written
written_seen written =
    record { inverse = written.inverse; name = map to_ascii_lowercase written.name.now; value = option_copied written.value }

abbrev pub asked_seen : Asked → options.Asked
asked_seen asked =
    record {
      match_case = asked.match_case;
      third_party = asked.third_party;
      domains = unwrap_or (option_map (λ entries. entries.items) asked.domains) [];
      types = option_map kinds_of asked.kinds;
      document = asked.document;
    }

abbrev pub pattern_seen : FilterPattern → lines.FilterPattern
pattern_seen All = lines.every_url
pattern_seen (Plain pattern) = lines.plain pattern
pattern_seen (Regex text) = lines.regex text

abbrev pub filter_seen : FilterLine → lines.FilterLine
filter_seen filter =
    record {
      exception = filter.exception;
      pattern = pattern_seen filter.pattern;
      match_case = filter.match_case;
      third_party = filter.third_party;
      domains = filter.domains;
      kinds = kinds_of filter.kinds;
      document = filter.document;
    }

abbrev pub line_seen : Line → lines.Line
line_seen Blank = lines.blank
line_seen Comment = lines.comment
line_seen Header = lines.header
line_seen (Filter filter) = lines.filter_line (filter_seen filter)
line_seen (Unsupported reason) = lines.unsupported reason
