use Rattle.std.proofs.Common.{◌≡◌, ◌∙◌, ◌<◌, ◌^◌, ◌-◌, sym, take, length, drop, arith, length-drop, ap}
use Rattle.dnr_io.specs.Files.{bytes_at, left_in}
use Rattle.dnr_io.proofs.OpenFilesLemmas.{taken}
use Rattle.dnr_io.proofs.files.OpenFiles.read.Goals as goal

pub overflow_add-self : goal.overflow_add-self
overflow_add-self c =
    let bytes = bytes_at c.self.inside.files.items c.self.inside.reading in
    let left : c.left_of.result.now ≡ drop c.self.inside.at bytes = grind arith in
    let small : length bytes < 2 ^ 64 = grind arith in
    let kept : length c.left_of.result.now ≡ length bytes - c.self.inside.at = ap length left ∙ length-drop c.self.inside.at bytes in
    grind arith

pub returns-clause-bytes : goal.returns-clause-bytes
returns-clause-bytes c =
    let inside = c.self.inside in
    let count = c.copy_front-count.result in
    let left : c.left_of.result.now ≡ left_in inside.files.items inside.reading inside.at = grind arith in
    sym (ap (λ v. v.left) c.self.view_is)
    ∙ taken (bytes_at inside.files.items inside.reading) inside.at count _ (c.copy_front-count.ensures.front ∙ ap (take count) left)
