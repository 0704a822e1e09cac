mod UndoLaws
mod ByteLaws
