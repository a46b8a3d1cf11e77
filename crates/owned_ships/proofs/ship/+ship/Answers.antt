use Rattle.owned_ships.proofs.ship.+ship.Goals as goal

pub ShipRef::to_record-returns-in_err-own_captain :
    goal.ShipRef::to_record-returns-in_err-own_captain
ShipRef::to_record-returns-in_err-own_captain t c =
    c.in_ok-below.ensures.fails c.args.self.now.0 _ c.in_err-own_captain.field-0.0
    c.from_residual-in_err-own_captain.ensures.1
    (λ h1 h2 h3 h4 h5 h6 h7 h8 h9 captain mate. captain c.in_err-own_captain.ensures)

pub ShipRef::to_record-returns-in_err-own_mate : goal.ShipRef::to_record-returns-in_err-own_mate
ShipRef::to_record-returns-in_err-own_mate t c =
    c.in_ok-below.ensures.fails c.args.self.now.0 _ c.in_err-own_mate.field-0.0
    c.from_residual-in_err-own_mate.ensures.1
    (λ h1 h2 h3 h4 h5 h6 h7 h8 h9 captain mate. mate c.in_err-own_mate.ensures)
