use Rattle.catalog_rows.proofs.erasing.erase_view_at.Goals as goal

pub returns-in-Object : goal.returns-in-Object
returns-in-Object c parts = rw c.in-Object.is (c.erase_view.ensures parts)
