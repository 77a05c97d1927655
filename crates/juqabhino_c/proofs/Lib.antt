mod RunAnswers
mod WordParts
