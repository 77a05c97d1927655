mod Marks
mod Reaches
