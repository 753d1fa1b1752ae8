-- `Caches::byte_shift` meets its contract: what is kept is right, and what is found is kept.
use Rattle.agree.specs.Tests.{byte_test}
use Rattle.image.proofs.Laws.Caches.{least_fits}
use Rattle.image.proofs.caches.Caches.byte_shift.Goals as goal

pub overflow_cast-self : goal.overflow_cast-self
overflow_cast-self c =
    let r = c.byte_shift-by in
    least_fits (byte_test c.args.depth c.args.byte) c.requires.book r.result r.ensures
