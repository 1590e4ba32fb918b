mod ExplanationWords
mod Keys
