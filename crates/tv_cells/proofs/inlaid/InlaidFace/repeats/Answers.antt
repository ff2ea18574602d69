use Rattle.tv_cells.proofs.inlaid.InlaidFace.repeats.Goals as goal

-- with no sheet the rows are those of the face
pub returns-in-None : goal.returns-in-None
returns-in-None g c = rw c.in-None.is c.repeats.ensures
