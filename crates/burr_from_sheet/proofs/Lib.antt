mod BeforeLevels
mod FaultyLines
mod FirstLines
mod PlanTexts
mod SheetFronts
