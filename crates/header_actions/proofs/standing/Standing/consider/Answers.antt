use Rattle.std.proofs.Common.{refl, rules}
use Rattle.header_actions.proofs.Considered.{request_told, response_told}
use Rattle.header_actions.proofs.standing.Standing.consider.Goals as goal

pub returns-in-Request : goal.returns-in-Request
returns-in-Request c = request_told c.args.self.now (record { requests = c.consider.new.self; responses = c.args.self.now.responses }) c.args.offer.now c.consider.result (search rules) refl c.consider.ensures

pub returns-in-Response : goal.returns-in-Response
returns-in-Response c = response_told c.args.self.now (record { requests = c.args.self.now.requests; responses = c.consider-in-Response.new.self }) c.args.offer.now c.consider-in-Response.result (search rules) refl c.consider-in-Response.ensures
