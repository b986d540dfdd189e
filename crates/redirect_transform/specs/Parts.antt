-- The components of a URL that `UrlParts` lends.
use Rattle.redirect_transform.specs.declared.parts.UrlParts.{UrlParts}
use Rattle.dnr_spec.specs.Transform.{Components}

abbrev pub lent : UrlParts → Components
lent parts = record {
  scheme = parts.scheme.now;
  username = parts.username.now;
  password = parts.password.now;
  host = parts.host.now;
  port = parts.port.now;
  path = parts.path.now;
  query = parts.query.now;
  fragment = parts.fragment.now;
}
