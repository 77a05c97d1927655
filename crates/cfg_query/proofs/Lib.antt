mod TreeLines
mod PredicateTexts
