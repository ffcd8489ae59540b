use Rattle.case_table.proofs.Places.{place_is}
use Rattle.case_table.proofs.table.CaseTable.find.Goals as goal
use Rattle.std.proofs.Common.{◌≡◌, bytes_eq, position}

pub returns : goal.returns
returns g c =
    let found : c.place_in.result ≡ position (λ known. bytes_eq known.now c.args.name.now) c.self.inside.names.items = rw c.as_slice.ensures.value at c.place_in.ensures in
    place_is (λ known. known.now) c.self.inside.names.items c.args.self.now c.args.name.now c.place_in.result c.self.view_is (rw c.self.view_is at c.self.invariant.1) found
